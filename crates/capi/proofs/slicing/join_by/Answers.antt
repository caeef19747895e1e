use Rattle.capi.proofs.Lengths.{join_small}
use Rattle.capi.proofs.slicing.join_by.Goals as goal

pub returns-in_ok-length-in-Gf256-clause-small : goal.returns-in_ok-length-in-Gf256-clause-small
returns-in_ok-length-in-Gf256-clause-small c =
    let small = join_small _ _ c.args.bytes c.args.positions.now c.args.records.now _ c.join.result c.join.ensures.answers in
    rw c.in_ok-length-in-Gf256.was at small

pub returns-in_ok-length-in-Gf65537-clause-small : goal.returns-in_ok-length-in-Gf65537-clause-small
returns-in_ok-length-in-Gf65537-clause-small c =
    let small = join_small _ _ c.args.bytes c.args.positions.now c.args.records.now _ c.join-in-Gf65537.result c.join-in-Gf65537.ensures.answers in
    rw c.in_ok-length-in-Gf65537.was at small

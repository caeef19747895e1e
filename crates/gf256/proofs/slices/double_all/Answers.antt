use Rattle.std.proofs.Common.{◌<◌, ◌≤◌, length, get_or, ap, ◌∙◌, arith}
use Rattle.base.proofs.Placed.{placed_none, placed_more, placed_all}
use Rattle.binary.specs.Binary.{product}
use Rattle.gf256.specs.Slices.{doubled}
use Rattle.gf256.proofs.slices.double_all.Goals as goal

pub loop-byte-init : goal.loop-byte-init
loop-byte-init c = placed_none c.args.out.now (λ j. product 8 0x11d (get_or c.args.out.now j 0) 2)

pub loop-byte-preserved : goal.loop-byte-preserved
loop-byte-preserved c =
    let was = c.args.out.now in
    let j = c.loop-byte.byte-index in
    let within : j < length was = omega arith in
    let same : j ≤ j = omega arith in
    placed_more was c.loop-byte.out j _ (λ j. product 8 0x11d (get_or was j 0) 2) within
    (c.double.ensures ∙ ap (λ a. product 8 0x11d a 2) (c.loop-byte.invariant.rest j same)) c.loop-byte.invariant

pub returns : goal.returns
unfolding doubled
returns c = placed_all c.args.out.now c.loop-byte.out c.loop-byte.byte-index _ (omega arith) c.loop-byte.invariant

use Rattle.std.proofs.Common.{◌≡◌, ◌-◌, ◌*◌, ◌/◌, ap, ◌∙◌, mul-div_cancel, arith}
use Rattle.algebra.proofs.Stored.{stored-least}
use Rattle.erasure.specs.Records.{columns}
use Rattle.erasure.specs.Whole.{coding_of}
use Rattle.recovery.proofs.checking.Checked.check.Goals as goal

pub invariant_of-result-clause-counted : goal.invariant_of-result-clause-counted
invariant_of-result-clause-counted g c =
    let f = g.F.Field in
    let m = columns (coding_of f c.args.plan.now) c.args.bytes in
    let size : c.in-Some.whole - 6 ≡ m * f.stored = omega (arith, c.in-Some.ensures.1) in
    ap (λ n. n / c.stored_width.result) size ∙ ap (λ n. m * f.stored / n) c.stored_width.ensures
    ∙ mul-div_cancel m (stored-least f.ops g.met.F.Field.lawful f.width f.stored f.number g.met.F.Field.widths)

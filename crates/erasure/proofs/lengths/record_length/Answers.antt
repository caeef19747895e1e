use Rattle.std.proofs.Common.{◌≡◌, ◌+◌, ◌-◌, ◌*◌, ◌≤◌, false, sym, ap, ◌∙◌, subst, arith}
use Rattle.base.specs.Sizes.{misfit}
use Rattle.base.proofs.Lengths.{fits}
use Rattle.erasure.proofs.lengths.record_length.Goals as goal

pub column_count-requires : goal.column_count-requires
column_count-requires g c = (fits c.args.bytes (sym c.is_misfit.ensures ∙ c.if-is_misfit.false)).2

pub returns : goal.returns
returns g c =
    let told = c.column_count.ensures in
    let fit : misfit c.args.bytes ≡ false = sym c.is_misfit.ensures ∙ c.if-is_misfit.false in
    let m = c.column_count.result in
    let less : 6 + m * c.stored_width.result - 6 ≡ m * g.F.Field.stored = omega (arith, ap (λ n. m * n) c.stored_width.ensures) in
    (fit, (cc), subst (λ n. c.args.plan.now.k * n ≤ 6400) (sym less) told.bound)

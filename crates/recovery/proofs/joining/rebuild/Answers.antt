use Rattle.std.proofs.Common.{ℕ, length, Result, sym, ap, ◌∙◌}
use Rattle.std.proofs.lemmas.Result.{err_from_is_err_and}
use Rattle.base.specs.Answers.{pass}
use Rattle.erasure.specs.declared.fault.SliceFault.{SliceFault}
use Rattle.erasure.specs.Whole.{coding_of}
use Rattle.recovery.specs.Answers.{rebuild_rest}
use Rattle.recovery.proofs.Restoring.{plan_rebuilds}
use Rattle.recovery.proofs.joining.rebuild.Goals as goal

pub returns-clause-exact : goal.returns-clause-exact
returns-clause-exact g c =
    let a = c.args in
    plan_rebuilds g.F.Field g.met.F.Field.lawful g.met.F.Field.widths a.plan.now a.bytes a.positions.now a.records.now (λ i. (c.type_inv.records i).fits) a.cabinet

pub returns-in_err-checked-clause-exact : goal.returns-in_err-checked-clause-exact
returns-in_err-checked-clause-exact g c =
    let a = c.args in
    plan_rebuilds g.F.Field g.met.F.Field.lawful g.met.F.Field.widths a.plan.now a.bytes a.positions.now a.records.now (λ i. (c.type_inv.records i).fits) a.cabinet

pub returns-in_err-checked-clause-answers : goal.returns-in_err-checked-clause-answers
returns-in_err-checked-clause-answers g c =
    let a = c.args in
    let C = coding_of g.F.Field a.plan.now in
    let next : Result ℕ SliceFault = rebuild_rest C a.plan.now.n a.bytes a.records.now a.cabinet (length a.out.now) in
    let told = err_from_is_err_and c.from_residual.result c.from_residual.ensures.1 in
    rw (told.1, told.2) (sym (c.check.ensures.answers next ∙ ap (λ r. pass (λ e. e) r (λ _. next)) c.in_err-checked.was))

use Rattle.std.proofs.Common.{rules, ◌≡◌, ap, arith, Ok}
use Rattle.rows.specs.Model.{with_new}
use Rattle.bay_map.specs.Kept.{record_at}
use Rattle.bay_map.proofs.KeptLemmas.{keeps_next}
use Rattle.bay_map.proofs.garage.Garage.fill.Goals as goal

pub loop-cabinet-preserved : goal.loop-cabinet-preserved
loop-cabinet-preserved g c =
    let at = c.loop-cabinet.cabinet in
    let swapped : g.R.ReadRow.model c.swap.new.self ≡ with_new (g.R.ReadRow.model c.loop-cabinet.self.cabinets) at = search rules in
    let made : record_at c.loop-cabinet.self.plan.k c.loop-cabinet.self.plan.n c.loop-cabinet.self.package.items at ≡ Ok c.as_slice.result.now = search rules in
    record {
      stays = search rules;
      kept = λ d below. rw c.store.ensures.stays (rw c.in_ok-store.ensures.stored (rw swapped (keeps_next _ _ _ _ _ at c.loop-cabinet.invariant.kept made d below)));
    }

pub returns-clause-kept : goal.returns-clause-kept
returns-clause-kept g c d below =
    c.loop-cabinet.invariant.kept d (omega (arith, below, c.loop-cabinet-test.false, c.fitted-cabinet-end.ensures, ap (λ s. s.plan.n) c.loop-cabinet.invariant.stays))

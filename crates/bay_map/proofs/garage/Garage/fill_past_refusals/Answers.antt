use Rattle.std.proofs.Common.{rules, ap, arith}
use Rattle.bay_map.proofs.KeptLemmas.{keeps_what_fits_next}
use Rattle.bay_map.proofs.garage.Garage.fill_past_refusals.Goals as goal

pub loop-cabinet-preserved : goal.loop-cabinet-preserved
loop-cabinet-preserved g c =
    let before = c.loop-cabinet.invariant.kept in
    record {
      stays = search rules;
      kept = λ d below. rw c.keep.ensures.stays (rw c.in_ok-keep.ensures.kept (keeps_what_fits_next _ _ _ _ _ before d below));
    }

pub returns-clause-kept : goal.returns-clause-kept
returns-clause-kept g c d below =
    c.loop-cabinet.invariant.kept d (omega (arith, below, c.loop-cabinet-test.false, c.fitted-cabinet-end.ensures, ap (λ s. s.plan.n) c.loop-cabinet.invariant.stays))

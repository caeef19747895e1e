use Rattle.std.proofs.Common.{◌≡◌, ℕ, ◌<◌}
use Rattle.bay_map.specs.Kept.{KeepsWhatFits}
use Rattle.bay_map.proofs.garage.Garage.fill_past_refusals.Given as goal

abbrev pub invariant-loop-cabinet : goal.invariant-loop-cabinet
invariant-loop-cabinet g l =
    record {
      stays : l.self ≡ record l.initial.self { cabinets = l.self.cabinets };
      kept : (c : ℕ) → c < l.cabinet → KeepsWhatFits (g.R.ReadRow.model l.self.cabinets) l.self.plan.k l.self.plan.n l.self.package.items c;
    }

use Rattle.std.proofs.Common.{◌≡◌, length, take, ap, ◌∙◌, arith, length-set}
use Rattle.standing.specs.Found.{length_back}
use Rattle.standing.proofs.Found.{zeros_kept}
use Rattle.standing.proofs.lowest.Lowest.push.Goals as goal

pub invariant_of-self : goal.invariant_of-self
invariant_of-self c =
    let s = c.self.inside in
    let h = c.self.invariant in
    let long : length (take s.found s.positions) ≡ s.found = length_back s.found s.positions h.0 h.1 in
    (omega (arith, long, c.requires, ap length c.self.view_is), length-set s.positions s.found c.args.cabinet ∙ h.1, zeros_kept s.positions s.found c.args.cabinet h.2)

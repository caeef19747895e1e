use Rattle.std.proofs.Common.{◌≡◌, ◌+◌, ◌*◌, ◌%◌, ◌≤◌}
use Rattle.algebra.specs.Polynomials.{at, sum_to}
use Rattle.algebra.specs.Slices.{stored_at}
use Rattle.gf65537.specs.Gf65537.{gf65537}
use Rattle.gf65537.proofs.slices.sum_within.Given as goal

abbrev pub invariant-loop-i : goal.invariant-loop-i
invariant-loop-i l = (l.total % 65537 ≡ sum_to gf65537 l.i (λ i. gf65537.mul (stored_at 3 l.sum.sources.now (i * l.sum.stride + l.place)) (at l.sum.weights.now i))) × (l.total ≤ l.i * 4294967296)

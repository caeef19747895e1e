use Rattle.std.proofs.Common.{◌≡◌}
use Rattle.algebra.specs.Polynomials.{at}
use Rattle.algebra.specs.Lagrange.{weight}
use Rattle.algebra.proofs.interpolation.weight.Given as goal

abbrev pub invariant-loop-q : goal.invariant-loop-q
invariant-loop-q g l = l.product ≡ weight g.F.Field.ops l.q-index (at l.points) l.p l.x

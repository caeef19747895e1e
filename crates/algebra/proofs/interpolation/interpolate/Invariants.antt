use Rattle.std.proofs.Common.{◌≡◌, length}
use Rattle.algebra.specs.Polynomials.{at, sum_to}
use Rattle.algebra.specs.Lagrange.{weight}
use Rattle.algebra.proofs.interpolation.interpolate.Given as goal

abbrev pub invariant-loop-j : goal.invariant-loop-j
invariant-loop-j g l =
    let f = g.F.Field.ops in
    l.sum ≡ sum_to f l.j (λ j. f.mul (at l.values j) (weight f (length l.points) (at l.points) (at l.points j) l.x))

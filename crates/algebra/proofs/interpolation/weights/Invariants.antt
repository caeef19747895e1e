use Rattle.std.proofs.Common.{◌≡◌, ◌++◌, map, length, take, drop}
use Rattle.algebra.specs.Polynomials.{at}
use Rattle.algebra.specs.Lagrange.{weight}
use Rattle.algebra.proofs.interpolation.weights.Given as goal

abbrev pub invariant-loop-j : goal.invariant-loop-j
invariant-loop-j g l =
    let ps = l.points in
    l.weights ≡ map (λ p. weight g.F.Field.ops (length ps) (at ps) p l.x) (take l.j ps) ++ drop l.j l.initial.weights

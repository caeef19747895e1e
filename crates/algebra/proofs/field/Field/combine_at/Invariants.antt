use Rattle.std.proofs.Common.{◌≡◌, ◌+◌, ◌*◌}
use Rattle.algebra.specs.Polynomials.{at, sum_to}
use Rattle.algebra.specs.Slices.{stored_at}
use Rattle.algebra.proofs.field.Field.combine_at.Given as goal

abbrev pub invariant-loop-i : goal.invariant-loop-i
invariant-loop-i g l =
    let f = g.Self.Field.ops in
    l.total ≡ sum_to f l.i (λ i. f.mul (stored_at g.Self.Field.stored l.sum.sources.now (i * l.sum.stride + l.place)) (at l.sum.weights.now i))

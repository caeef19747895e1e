use Rattle.std.proofs.Common.{◌≡◌, ◌*◌, ◌++◌, drop}
use Rattle.algebra.specs.Slices.{combined}
use Rattle.algebra.proofs.field.Field.combine.Given as goal

abbrev pub invariant-loop-j : goal.invariant-loop-j
invariant-loop-j g l =
    let v = g.Self.Field.stored in
    l.out ≡ combined g.Self.Field.ops v l.sum.weights.now l.sum.sources.now l.sum.stride l.j ++ drop (l.j * v) l.initial.out

use Rattle.std.proofs.Common.{◌≡◌, ◌*◌, ◌++◌, drop}
use Rattle.algebra.specs.Slices.{combined}
use Rattle.gf65537.specs.Gf65537.{gf65537}
use Rattle.gf65537.proofs.slices.combine_sums.Given as goal

abbrev pub invariant-loop-j : goal.invariant-loop-j
invariant-loop-j l = l.out ≡ combined gf65537 3 l.sum.weights.now l.sum.sources.now l.sum.stride l.j ++ drop (l.j * 3) l.initial.out

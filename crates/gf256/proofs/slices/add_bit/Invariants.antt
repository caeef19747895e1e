use Rattle.std.proofs.Common.{◌≡◌}
use Rattle.gf256.specs.Slices.{bits_added}
use Rattle.gf256.proofs.slices.add_bit.Given as goal

abbrev pub invariant-loop-i : goal.invariant-loop-i
invariant-loop-i l = l.out ≡ bits_added l.bit l.initial.out l.sum.weights.now l.sum.sources.now l.sum.stride l.i

use Rattle.std.proofs.Common.{◌≡◌, map, length}
use Rattle.std.specs.List.{range_with_len}
use Rattle.gf256.proofs.Sums.{bits_from}
use Rattle.gf256.proofs.slices.combine_bits.Given as goal

abbrev pub invariant-loop-bit : goal.invariant-loop-bit
invariant-loop-bit l = l.out ≡ map (bits_from l.sum.weights.now l.sum.sources.now l.sum.stride l.bit (length l.sum.weights.now)) (range_with_len 0 (length l.initial.out))

use lib.Bits.{bit_xor}
use Rattle.std.proofs.Common.{◌+◌, get_or}
use Rattle.base.proofs.Placed.{Placed}
use Rattle.gf256.proofs.slices.add_all.Given as goal

abbrev pub invariant-loop-j : goal.invariant-loop-j
invariant-loop-j l = Placed l.initial.out l.out l.j (λ j. bit_xor (get_or l.initial.out j 0) (get_or l.slice (0 + j) 0))

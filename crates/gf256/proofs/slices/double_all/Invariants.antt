use Rattle.std.proofs.Common.{get_or}
use Rattle.base.proofs.Placed.{Placed}
use Rattle.binary.specs.Binary.{product}
use Rattle.gf256.proofs.slices.double_all.Given as goal

abbrev pub invariant-loop-byte : goal.invariant-loop-byte
invariant-loop-byte l = Placed l.initial.out l.out l.byte-index (λ j. product 8 0x11d (get_or l.initial.out j 0) 2)

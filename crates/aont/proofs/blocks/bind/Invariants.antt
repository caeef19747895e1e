use Rattle.std.proofs.Common.{◌≡◌}
use Rattle.aont.proofs.Transform.{bound_upto}
use Rattle.aont.proofs.blocks.bind.Given as goal

abbrev pub invariant-loop-i : goal.invariant-loop-i
invariant-loop-i g l = l.sum ≡ bound_upto g.C.Cipher.encrypted l.initial.sum l.i l.blocks

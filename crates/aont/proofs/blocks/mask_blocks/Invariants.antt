use Rattle.std.proofs.Common.{◌≡◌, ◌*◌, ◌++◌, drop}
use Rattle.aont.proofs.Transform.{masked_upto}
use Rattle.aont.proofs.blocks.mask_blocks.Given as goal

abbrev pub invariant-loop-i : goal.invariant-loop-i
invariant-loop-i g l = l.blocks ≡ masked_upto g.C.Cipher.encrypted (g.C.Cipher.key l.cipher) l.i l.initial.blocks ++ drop (16 * l.i) l.initial.blocks

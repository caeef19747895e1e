use Rattle.std.proofs.Common.{◌≡◌, ◌-◌, ◌*◌, take}
use Rattle.base.specs.Bytes.{over}
use Rattle.aont.specs.Seals.{unsealed}
use Rattle.aont.proofs.opening.Opening.write_file.Given as goal

abbrev pub invariant-loop-i : goal.invariant-loop-i
invariant-loop-i g l = l.out ≡ over (take (16 * l.i - 4) (unsealed g.C.Cipher.encrypted g.C.Cipher.number l.self.bytes.now)) l.initial.out

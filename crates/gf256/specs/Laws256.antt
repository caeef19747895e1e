-- GF(256) is a field, which the interface asks to be shown: proofs, nobody has to believe them. Assumes nothing.
use Rattle.std.specs.Prelude.{ℕ, List, [], ◌∷◌}
use Rattle.std.proofs.Common.{lit<, lit≤}
use Rattle.algebra.specs.Fields.{Laws, Widths}
use Rattle.binary.specs.Binary.{carryless, remainder, product}
use Rattle.binary.proofs.Inverse.{frob}
use Rattle.binary.proofs.Field.{Passed, low, comm, assoc, one, round, fixed, binary_laws}
use Rattle.gf256.specs.Gf256.{gf256}

abbrev pub undoing : List ℕ
undoing = 214 ∷ 232 ∷ 234 ∷ 44 ∷ 238 ∷ 0 ∷ 36 ∷ 80 ∷ []

pub passed : Passed 8 0x11d undoing
unfolding low comm assoc one round fixed carryless remainder product frob
passed = record { lows = tt; comms = tt; assocs = tt; ones = tt; rounds = tt; fixeds = tt }

pub gf256_laws : Laws gf256
gf256_laws = binary_laws 8 0x11d undoing (lit< tt) passed

pub gf256_widths : Widths gf256 1 1 1
gf256_widths = record { least = lit≤ tt; most = lit≤ tt; ratio = lit≤ tt; fills = lit≤ tt; holds = lit≤ tt; small = lit< tt }

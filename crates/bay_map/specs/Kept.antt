-- What a row of cabinets keeps of a bay map's package. Assumes nothing.
use Rattle.std.specs.Prelude.{◌≡◌, ℕ, true, List, length, replicate, Ok, Err, Result}
use Rattle.erasure.specs.Formula.{record_of}
use Rattle.erasure.specs.Records.{coding}
use Rattle.erasure.specs.Slices.{cut_answer}
use Rattle.erasure.specs.declared.fault.SliceFault.{SliceFault}
use Rattle.gf256.specs.Gf256.{gf256}
use Rattle.owned.specs.Fronts.{front_of_zeros}
use Rattle.rows.specs.Model.{RowModel, Slot, Empty, Held, with_new, with_slot}

-- the package, or as many zeros as the longest one has bytes where the file is not sealed
abbrev pub or_blank : {E : Type 0} → Result (List ℕ) E → List ℕ
or_blank (Ok bytes) = bytes
or_blank (Err e) = replicate 4128 0

-- the record of cabinet c that any k of n restore the package from, over GF(256), with issue 1, or the refusal of one that is
-- longer than the room
abbrev pub record_within : ℕ → ℕ → ℕ → List ℕ → ℕ → Result (List ℕ) SliceFault
record_within room k n pkg c = front_of_zeros (cut_answer (coding gf256 1 1 1 k) n (length pkg) c 1 room) (record_of (coding gf256 1 1 1 k) pkg c 1) room

-- the record of cabinet c that any k of n restore the package from, over GF(256), with issue 1: no record is longer than 6198 bytes
abbrev pub record_at : ℕ → ℕ → List ℕ → ℕ → Result (List ℕ) SliceFault
record_at k n pkg c = record_within 6198 k n pkg c

-- the slot that gets such a record, and nothing on a refusal
abbrev pub slot_with : Result (List ℕ) SliceFault → Slot
slot_with (Ok bytes) = Held bytes
slot_with (Err fault) = Empty

-- the row with a new cabinet in the place of one, which keeps its record of the package as file 0
abbrev pub restocked : RowModel → ℕ → ℕ → List ℕ → ℕ → RowModel
restocked row k n pkg c = with_slot (with_new row c) c 0 (slot_with (record_within row.room k n pkg c))

-- Cabinet c is in reach, and keeps its record of the package as file 0.
pub record Keeps (row : RowModel) (k n : ℕ) (pkg : List ℕ) (c : ℕ) : Type 0 where
  pub near : row.reach c ≡ true
  pub kept : List ℕ
  pub holds : row.slot c 0 ≡ Held kept
  pub made : record_at k n pkg c ≡ Ok kept

-- Cabinet c is in reach, and keeps its record of the package as file 0, or nothing where the row has no room for the record.
pub record KeepsWhatFits (row : RowModel) (k n : ℕ) (pkg : List ℕ) (c : ℕ) : Type 0 where
  pub near : row.reach c ≡ true
  pub holds : row.slot c 0 ≡ slot_with (record_within row.room k n pkg c)

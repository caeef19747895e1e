-- What is found in a slot, or put there: words of private contracts, which nobody has to believe. Assumes nothing.
use Rattle.std.specs.Prelude.{ℕ, ◌+◌, ◌≤◌, cond, List, length, ◌==◌, slice_set}
use Rattle.base.specs.Bytes.{Bytes}
use Rattle.rows.specs.Model as row
use Rattle.shelf.specs.Layout.{with_held}
use Rattle.shelf.specs.declared.slot.Status.{Status}
use Rattle.shelf.specs.declared.slot.Status.TheVariants as status
use Rattle.shelf.specs.declared.slot.Stored.{Stored}
use Rattle.shelf.specs.declared.slot.Stored.TheVariants.{Empty, Condemned, Held}

-- the status that a byte means
abbrev pub status_of : ℕ → Status
status_of byte = cond (byte == 0) status.Empty (cond (byte == 1) status.Held status.Condemned)

-- the slot that has it
abbrev pub slot_of : Stored → row.Slot
slot_of Empty = row.Empty
slot_of Condemned = row.Condemned
slot_of (Held bs) = row.Held bs.now

-- a slot with this room may have it
abbrev pub Fits : ℕ → Stored → Type 0
Fits room Empty = Unit {0}
Fits room Condemned = Unit {0}
Fits room (Held bs) = (1 ≤ length bs.now) × (length bs.now ≤ room) × Bytes bs.now

-- a memory of n bytes has room for it in the slot that begins at a place
abbrev pub HasRoom : ℕ → ℕ → Stored → Type 0
HasRoom n at Empty = Unit {0}
HasRoom n at Condemned = Unit {0}
HasRoom n at (Held bs) = (at + (3 + length bs.now) ≤ n) × (length bs.now ≤ 6400)

-- the memory with it in the slot that begins at a place
abbrev pub with_stored : List ℕ → ℕ → Stored → List ℕ
with_stored memory at Empty = slice_set memory at 0
with_stored memory at Condemned = slice_set memory at 255
with_stored memory at (Held bs) = with_held memory at bs.now

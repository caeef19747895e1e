-- What a shelf means, and what its calls find. Assumes nothing.
use Rattle.std.specs.Prelude.{◌≡◌, ℕ, ◌+◌, ◌<◌, ◌≤◌, length}
use Rattle.rows.specs.Model.{RowModel}
use Rattle.shelf.specs.Layout.{door, fitting, place, shelved}
use Rattle.shelf.specs.declared.Shelf.{Shelf}

-- the row that a shelf holds
abbrev pub row_of : Shelf → RowModel
row_of s = shelved s.memory.now s.room

-- a shelf over the same memory, with the same room
abbrev pub SameShelf : Shelf → Shelf → Type 0
SameShelf s t = (s.memory.ghost_name ≡ t.memory.ghost_name) × (s.room ≡ t.room)

-- The rest of this file is words of private contracts, which nobody has to believe.

-- a cabinet that is there begins at a place, within the memory
pub record DoorAt (s : Shelf) (c at : ℕ) : Type 0 where
  pub is : at ≡ door s.room c
  pub within : at < length s.memory.now
  pub there : c < fitting (length s.memory.now) s.room

-- the slot of a cabinet and a file that are there begins at a place, within the memory
pub record SlotAt (s : Shelf) (c f at : ℕ) : Type 0 where
  pub is : at ≡ place s.room c f
  pub within : at + (3 + s.room) ≤ length s.memory.now
  pub there : c < fitting (length s.memory.now) s.room
  pub file : f < 8

-- How a shelf lays a row of cabinets out in memory. Assumes nothing.
use Rattle.std.specs.Prelude.{ℕ, zero, suc, ◌+◌, ◌*◌, ◌/◌, ◌%◌, min, cond, ◌&&◌, List, map, length, ◌==◌, nat_le, nat_lt, slice_index, slice_set}
use Rattle.base.specs.Bytes.{le_bytes, le_value, part, written}
use Rattle.rows.specs.Model.{RowModel, Slot, Empty, Condemned, Held}

-- the bytes of one cabinet: one of reach, and eight slots of a status, a length and the room
abbrev pub stride : ℕ → ℕ
stride room = 1 + 8 * (3 + room)

-- as many cabinets as fit n bytes, 16 at most
abbrev pub fitting : ℕ → ℕ → ℕ
fitting n room = min 16 (n / stride room)

-- where a cabinet begins, with its byte of reach
abbrev pub door : ℕ → ℕ → ℕ
door room c = c * stride room

-- where a slot begins, with its status
abbrev pub place : ℕ → ℕ → ℕ → ℕ
place room c f = door room c + (1 + f * (3 + room))

-- numbers as bytes; what a memory holds stays as it is
abbrev pub as_bytes : List ℕ → List ℕ
as_bytes xs = map (λ x. x % 256) xs

-- what the slot that begins at a place has, by its status and its length
unfoldable pub slot_at : List ℕ → ℕ → ℕ → Slot
slot_at memory room at =
    let n = le_value (part memory (at + 1) 2) in
    cond (slice_index memory at == 0) Empty
    (cond (slice_index memory at == 1 && (nat_lt 0 n && nat_le n room)) (Held (as_bytes (part memory (at + 3) n))) Condemned)

-- the row that a memory holds, for its room
unfoldable pub shelved : List ℕ → ℕ → RowModel
shelved memory room = record {
  count = fitting (length memory) room;
  room = room;
  reach = λ c. nat_lt c (fitting (length memory) room) && (slice_index memory (door room c) == 1);
  slot = λ c f. cond (nat_lt c (fitting (length memory) room) && nat_lt f 8) (slot_at memory room (place room c f)) Empty;
}

-- the room that a shelf has
abbrev pub room_of : ℕ → ℕ
room_of given = min given 6400

-- what a shelf means
abbrev pub shelf_model : List ℕ → ℕ → RowModel
shelf_model memory given = shelved memory (room_of given)

-- the memory with bytes held by the slot at a place: its status, its length and the bytes
abbrev pub with_held : List ℕ → ℕ → List ℕ → List ℕ
with_held memory at bs = written (written (slice_set memory at 1) (at + 1) (le_bytes 2 (length bs))) (at + 3) bs

-- the memory with the first n slots of a cabinet empty
unfoldable pub with_empty : List ℕ → ℕ → ℕ → ℕ → List ℕ
with_empty memory room c zero = memory
with_empty memory room c (suc n) = slice_set (with_empty memory room c n) (place room c n) 0

-- the memory with an empty cabinet in the place of one, in reach
abbrev pub with_empty_cabinet : List ℕ → ℕ → ℕ → List ℕ
with_empty_cabinet memory room c = with_empty (slice_set memory (door room c) 1) room c 8

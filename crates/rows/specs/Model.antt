-- What a row of cabinets means, and the changes of it. Assumes nothing.
use Rattle.std.specs.Prelude.{◌≡◌, ℕ, ◌≤◌, Bool, true, false, cond, ◌&&◌, List, [], length, ◌==◌}
use Rattle.base.specs.Bytes.{Bytes}

-- what one slot of a cabinet has
pub data Slot : Type 0 where
  Empty : Slot
  Condemned : Slot
  Held : List ℕ → Slot

-- how many cabinets there are, how many bytes a write may bring, and for each cabinet whether it is in reach and what
-- its eight files have
pub record RowModel : Type 0 where
  pub count : ℕ
  pub room : ℕ
  pub reach : ℕ → Bool
  pub slot : ℕ → ℕ → Slot

-- what holds of every row; the last three say that nothing is there past its cabinets and files, so that two rows that
-- mean the same are equal
pub record Sound (m : RowModel) : Type 0 where
  pub few : m.count ≤ 16
  pub small : m.room ≤ 6400
  pub some : (c f : ℕ) (bs : List ℕ) → m.slot c f ≡ Held bs → 1 ≤ length bs
  pub most : (c f : ℕ) (bs : List ℕ) → m.slot c f ≡ Held bs → length bs ≤ 6400
  pub bytes : (c f : ℕ) (bs : List ℕ) → m.slot c f ≡ Held bs → Bytes bs
  pub no_reach : (c : ℕ) → m.count ≤ c → m.reach c ≡ false
  pub no_cabinet : (c f : ℕ) → m.count ≤ c → m.slot c f ≡ Empty
  pub no_file : (c f : ℕ) → 8 ≤ f → m.slot c f ≡ Empty

-- the bytes that a slot holds
abbrev pub held : Slot → List ℕ
held Empty = []
held Condemned = []
held (Held bs) = bs

-- the row with one slot changed
abbrev pub with_slot : RowModel → ℕ → ℕ → Slot → RowModel
with_slot m c f s = record { count = m.count; room = m.room; reach = m.reach; slot = λ d g. cond (d == c && g == f) s (m.slot d g) }

-- the row with one cabinet in reach or out of it
abbrev pub with_reach : RowModel → ℕ → Bool → RowModel
with_reach m c b = record { count = m.count; room = m.room; reach = λ d. cond (d == c) b (m.reach d); slot = m.slot }

-- the row with an empty cabinet in the place of one, in reach
abbrev pub with_new : RowModel → ℕ → RowModel
with_new m c = record { count = m.count; room = m.room; reach = λ d. cond (d == c) true (m.reach d); slot = λ d g. cond (d == c) Empty (m.slot d g) }

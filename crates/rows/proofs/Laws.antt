-- What holds of the meaning of a row: for the layers that are rows, and for those that use one. Assumes nothing.
use Rattle.std.proofs.Common.{◌≡◌, ℕ, ◌<◌, ◌≤◌, Bool, true, false, ◌⊎◌, List, length, take, drop, Ok, Err, Result, sym, arith}
use Rattle.std.proofs.lemmas.List.{take_at}
use Rattle.std.proofs.lemmas.Bool.Decides.{nat_tests}
use Rattle.base.specs.Bytes.{Bytes, over}
use Rattle.rows.specs.declared.fault.RowCause.{RowCause}
use Rattle.rows.specs.declared.fault.RowCause.TheVariants as cause
use Rattle.rows.specs.declared.fault.Fault.{Fault}
use Rattle.rows.specs.Model.{RowModel, Slot, Empty, Held, Sound, held, with_slot, with_reach, with_new}
use Rattle.rows.specs.Faults.{cabinet_fault, slot_fault}
use Rattle.rows.specs.Calls.{of_cabinet, of_slot, cabinet_answer, slot_answer, held_answer, read_answer, write_answer}

-- Two rows are the same if their parts are.
pub same_model : (a b : RowModel) → a.count ≡ b.count → a.room ≡ b.room → ((c : ℕ) → a.reach c ≡ b.reach c) → ((c f : ℕ) → a.slot c f ≡ b.slot c f) → a ≡ b
same_model a b p q s t = λ i. record { count = p i; room = q i; reach = λ c. s c i; slot = λ c f. t c f i }

-- What a change changes, and what it leaves.
module _ (m : RowModel) (c f : ℕ) (s : Slot) where
  pub slot-changed : (with_slot m c f s).slot c f ≡ s
  slot-changed = grind (arith, nat_tests)

  pub other_cabinet : (d g : ℕ) → (d ≡ c → ⊥) → (with_slot m c f s).slot d g ≡ m.slot d g
  other_cabinet d g ne = grind (arith, nat_tests)

  pub other_file : (d g : ℕ) → (g ≡ f → ⊥) → (with_slot m c f s).slot d g ≡ m.slot d g
  other_file d g ne = grind (arith, nat_tests)

module _ (m : RowModel) (c : ℕ) where
  pub reach-changed : (b : Bool) → (with_reach m c b).reach c ≡ b
  reach-changed b = grind (arith, nat_tests)

  pub other_reach : (b : Bool) (d : ℕ) → (d ≡ c → ⊥) → (with_reach m c b).reach d ≡ m.reach d
  other_reach b d ne = grind (arith, nat_tests)

  pub new-reach : (with_new m c).reach c ≡ true
  new-reach = grind (arith, nat_tests)

  pub new-slot : (g : ℕ) → (with_new m c).slot c g ≡ Empty
  new-slot g = grind (arith, nat_tests)

  pub new_other_reach : (d : ℕ) → (d ≡ c → ⊥) → (with_new m c).reach d ≡ m.reach d
  new_other_reach d ne = grind (arith, nat_tests)

  pub new_other_slot : (d g : ℕ) → (d ≡ c → ⊥) → (with_new m c).slot d g ≡ m.slot d g
  new_other_slot d g ne = grind (arith, nat_tests)

-- The checks of a cabinet and of a file.
module _ {T : Type 0} (m : RowModel) (c : ℕ) (next : Result T (Fault RowCause)) where
  pub no_cabinet : m.count ≤ c → of_cabinet m c next ≡ Err (cabinet_fault cause.NoCabinet c)
  no_cabinet h = grind (arith, nat_tests)

  pub a_cabinet : c < m.count → of_cabinet m c next ≡ next
  a_cabinet h = grind (arith, nat_tests)

  pub no_cabinet-of_slot : (f : ℕ) → m.count ≤ c → of_slot m c f next ≡ Err (slot_fault cause.NoCabinet c f)
  no_cabinet-of_slot f h = grind (arith, nat_tests)

  pub no_file-of_slot : (f : ℕ) → c < m.count → 8 ≤ f → of_slot m c f next ≡ Err (slot_fault cause.NoFile c f)
  no_file-of_slot f h k = grind (arith, nat_tests)

  pub a_slot : (f : ℕ) → c < m.count → f < 8 → of_slot m c f next ≡ next
  a_slot f h k = grind (arith, nat_tests)

-- When a call is accepted, and what that tells.
pub cabinet_accepted : (m : RowModel) (c : ℕ) → c < m.count → cabinet_answer m c ≡ Ok tt
cabinet_accepted m c h = a_cabinet m c (Ok tt) h

pub cabinet_told : (m : RowModel) (c : ℕ) → cabinet_answer m c ≡ Ok tt → c < m.count
cabinet_told m c h = grind (arith, nat_tests)

pub slot_accepted : (m : RowModel) (c f : ℕ) → c < m.count → f < 8 → slot_answer m c f ≡ Ok tt
slot_accepted m c f hc hf = a_slot m c (Ok tt) f hc hf

pub slot_told : (m : RowModel) (c f : ℕ) → slot_answer m c f ≡ Ok tt → (c < m.count) × (f < 8)
slot_told m c f h = grind (arith, nat_tests)

pub read_accepted : (m : RowModel) (c f n : ℕ) (bs : List ℕ) → c < m.count → f < 8 → m.reach c ≡ true → m.slot c f ≡ Held bs → length bs ≤ n → read_answer m c f n ≡ Ok (length bs)
read_accepted m c f n bs hc hf hr hs hn = grind (arith, nat_tests)

-- a slot that was read holds bytes
pub record Readable (m : RowModel) (c f n k : ℕ) : Type 0 where
  pub there : c < m.count
  pub file : f < 8
  pub near : m.reach c ≡ true
  pub full : m.slot c f ≡ Held (held (m.slot c f))
  pub long : k ≡ length (held (m.slot c f))
  pub fits : k ≤ n

held_told : (s : Slot) (c f n k : ℕ) → held_answer s c f n ≡ Ok k → (s ≡ Held (held s)) × (k ≡ length (held s)) × (k ≤ n)
held_told s c f n k h = grind (arith, nat_tests)

pub read_told : (m : RowModel) (c f n k : ℕ) → read_answer m c f n ≡ Ok k → Readable m c f n k
read_told m c f n k h = record {
  there = grind (arith, nat_tests);
  file = grind (arith, nat_tests);
  near = grind (arith, nat_tests);
  full = grind (arith, nat_tests, held_told (m.slot c f) c f n k);
  long = grind (arith, nat_tests, held_told (m.slot c f) c f n k);
  fits = grind (arith, nat_tests, held_told (m.slot c f) c f n k);
}

-- what is read stands in the front of the buffer
pub read_front : (bs buffer : List ℕ) (n : ℕ) → n ≡ length bs → take n (over bs buffer) ≡ bs
read_front bs buffer n e = take_at bs (drop (length bs) buffer) n (sym e)

pub write_accepted : (m : RowModel) (c f n : ℕ) → c < m.count → f < 8 → 1 ≤ n → n ≤ m.room → m.reach c ≡ true → write_answer m c f n ≡ Ok tt
write_accepted m c f n hc hf h1 hn hr = grind (arith, nat_tests)

pub write-misfit : (m : RowModel) (c f n : ℕ) → c < m.count → f < 8 → (n ≡ 0) ⊎ (m.room < n) → write_answer m c f n ≡ Err (slot_fault cause.SizeMisfit c f)
write-misfit m c f n hc hf o = grind (arith, nat_tests)

pub write-away : (m : RowModel) (c f n : ℕ) → c < m.count → f < 8 → 1 ≤ n → n ≤ m.room → m.reach c ≡ false → write_answer m c f n ≡ Err (slot_fault cause.OutOfReach c f)
write-away m c f n hc hf h1 hn hr = grind (arith, nat_tests)

pub record Writable (m : RowModel) (c f n : ℕ) : Type 0 where
  pub there : c < m.count
  pub file : f < 8
  pub some : 1 ≤ n
  pub fits : n ≤ m.room
  pub near : m.reach c ≡ true

pub write_told : (m : RowModel) (c f n : ℕ) → write_answer m c f n ≡ Ok tt → Writable m c f n
write_told m c f n h = record {
  there = grind (arith, nat_tests);
  file = grind (arith, nat_tests);
  some = grind (arith, nat_tests);
  fits = grind (arith, nat_tests);
  near = grind (arith, nat_tests);
}

-- Each change of a cabinet and a file that are there keeps a row sound.
module _ (m : RowModel) (fine : Sound m) (c : ℕ) (there : c < m.count) where
  pub sound_with_slot : (f : ℕ) (s : Slot) → f < 8 → ((bs : List ℕ) → s ≡ Held bs → (1 ≤ length bs) × (length bs ≤ 6400) × Bytes bs) → Sound (with_slot m c f s)
  sound_with_slot f s hf ok = record {
    few = fine.few;
    small = fine.small;
    some = λ d g bs e. grind (arith, nat_tests, ok bs, fine.some d g bs);
    most = λ d g bs e. grind (arith, nat_tests, ok bs, fine.most d g bs);
    bytes = λ d g bs e. grind (arith, nat_tests, ok bs, fine.bytes d g bs);
    no_reach = fine.no_reach;
    no_cabinet = λ d g h. grind (arith, nat_tests, fine.no_cabinet d g);
    no_file = λ d g h. grind (arith, nat_tests, fine.no_file d g);
  }

  pub sound_with_reach : (b : Bool) → Sound (with_reach m c b)
  sound_with_reach b = record {
    few = fine.few;
    small = fine.small;
    some = fine.some;
    most = fine.most;
    bytes = fine.bytes;
    no_reach = λ d h. grind (arith, nat_tests, fine.no_reach d);
    no_cabinet = fine.no_cabinet;
    no_file = fine.no_file;
  }

  pub sound_with_new : Sound (with_new m c)
  sound_with_new = record {
    few = fine.few;
    small = fine.small;
    some = λ d g bs e. grind (arith, nat_tests, fine.some d g bs);
    most = λ d g bs e. grind (arith, nat_tests, fine.most d g bs);
    bytes = λ d g bs e. grind (arith, nat_tests, fine.bytes d g bs);
    no_reach = λ d h. grind (arith, nat_tests, fine.no_reach d);
    no_cabinet = λ d g h. grind (arith, nat_tests, fine.no_cabinet d g);
    no_file = λ d g h. grind (arith, nat_tests, fine.no_file d g);
  }

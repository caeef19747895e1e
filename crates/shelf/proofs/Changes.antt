-- What each call does to the row in a memory. Assumes nothing.
use Rattle.std.proofs.Common.{◌≡◌, ℕ, ◌+◌, ◌^◌, ◌<◌, ◌≤◌, Bool, cond, eqb, ◌⊎◌, List, length, get_or, set, refl, ap, ◌∙◌, inl, inr, ⊎_elim, arith}
use Rattle.std.proofs.lemmas.List.{length-set, get_or-set_same, get_or-set_other}
use Rattle.std.proofs.lemmas.Bool.Decides.{nat_tests}
use Rattle.std.proofs.lemmas.Grind.{common_steps}
use Rattle.base.specs.Bytes.{Bytes, le_bytes, le_value, part, written}
use Rattle.base.proofs.Little.{length-le_bytes, le_value-le_bytes}
use Rattle.base.proofs.Parts.{Bytes-part}
use Rattle.rows.specs.Model.{Held, with_slot, with_reach}
use Rattle.shelf.specs.Layout.{fitting, door, place, slot_at, shelved, with_held}
use Rattle.shelf.specs.Slots.{Fits, slot_of, with_stored}
use Rattle.shelf.specs.Sound.{as_bytes_same}
use Rattle.shelf.specs.Within.{door-within, place-within}
use Rattle.shelf.specs.declared.slot.Stored.{Stored}
use Rattle.shelf.specs.declared.slot.Stored.TheVariants as stored
use Rattle.shelf.proofs.Slots.{part_same, slot-changed, reach-changed}

pub bytes_part : (xs : List ℕ) (at n : ℕ) → Bytes xs → Bytes (part xs at n)
bytes_part xs at n h = Bytes-part xs at n h

-- what an overwritten part leaves, and what it holds
module _ (xs : List ℕ) (at : ℕ) (ys : List ℕ) (fit : at + length ys ≤ length xs) where
  length-written : length (written xs at ys) ≡ length xs
  length-written = grind (arith, common_steps)

  written_before : (i : ℕ) → i < at → get_or (written xs at ys) i 0 ≡ get_or xs i 0
  written_before i h = grind (arith, common_steps)

  written_after : (i : ℕ) → at + length ys ≤ i → get_or (written xs at ys) i 0 ≡ get_or xs i 0
  written_after i h = grind (arith, common_steps)

  written_part : (n : ℕ) → length ys ≡ n → part (written xs at ys) at n ≡ ys
  written_part n e = grind (arith, common_steps)

-- the memory after a write
module _ (xs : List ℕ) (at : ℕ) (bs : List ℕ) (fit : at + (3 + length bs) ≤ length xs) where
  abbrev marked : List ℕ
  marked = set xs at 1

  abbrev size : List ℕ
  size = le_bytes 2 (length bs)

  abbrev sized : List ℕ
  sized = written marked (at + 1) size

  size_fits : at + 1 + length size ≤ length marked
  size_fits = grind (arith, common_steps, length-le_bytes)

  body_fits : at + 3 + length bs ≤ length sized
  body_fits = grind (arith, common_steps, length-le_bytes)

  length-with_held : length (with_held xs at bs) ≡ length xs
  length-with_held = grind (arith, common_steps, length-le_bytes)

  with_held_others : (i : ℕ) → (i < at) ⊎ (at + (3 + length bs) ≤ i) → get_or (with_held xs at bs) i 0 ≡ get_or xs i 0
  with_held_others i (inl h) =
      written_before sized (at + 3) bs body_fits i (omega arith) ∙ written_before marked (at + 1) size size_fits i (omega arith)
      ∙ get_or-set_other xs at i 1 0 (λ e. omega arith)
  with_held_others i (inr h) =
      written_after sized (at + 3) bs body_fits i (omega arith) ∙ written_after marked (at + 1) size size_fits i (omega (arith, length-le_bytes 2 (length bs)))
      ∙ get_or-set_other xs at i 1 0 (λ e. omega arith)

  with_held-slot : (r : ℕ) → 0 < length bs → length bs ≤ r → r ≤ 6400 → Bytes bs → slot_at (with_held xs at bs) r at ≡ Held bs
  unfolding slot_at
  with_held-slot r pos le most ok =
      let n = length bs in
      let zs = with_held xs at bs in
      let status : get_or zs at 0 ≡ 1 =
      written_before sized (at + 3) bs body_fits at (omega arith) ∙ written_before marked (at + 1) size size_fits at (omega arith)
      ∙ get_or-set_same xs at 1 0 (omega arith) in
      let head : part zs (at + 1) 2 ≡ size =
      part_same sized zs (at + 1) 2 (length-written sized (at + 3) bs body_fits) (λ i h k. written_before sized (at + 3) bs body_fits i (omega arith))
      ∙ written_part marked (at + 1) size size_fits 2 (length-le_bytes 2 n) in
      let low : n < 256 ^ 2 = omega arith in
      let long : le_value (part zs (at + 1) 2) ≡ n = ap le_value head ∙ le_value-le_bytes 2 n low in
      let body : part zs (at + 3) n ≡ bs = written_part sized (at + 3) bs body_fits n refl in
      rw (status, long, body) (grind (arith, nat_tests, as_bytes_same bs ok))

-- what is put in a slot
module _ (xs : List ℕ) (r c f : ℕ) (hc : c < fitting (length xs) r) (hf : f < 8) where
  status_model : (v : ℕ) (s : Stored) → slot_at (set xs (place r c f) v) r (place r c f) ≡ slot_of s → shelved (set xs (place r c f) v) r ≡ with_slot (shelved xs r) c f (slot_of s)
  status_model v s e = slot-changed xs (set xs (place r c f) v) r (length-set xs (place r c f) v) c f (slot_of s) hc hf
      (λ i o. get_or-set_other xs (place r c f) i v 0 (λ q. ⊎_elim (λ h. omega arith) (λ h. omega arith) o)) e

  put_model : (s : Stored) → r ≤ 6400 → Fits r s → shelved (with_stored xs (place r c f) s) r ≡ with_slot (shelved xs r) c f (slot_of s)
  unfolding slot_at
  put_model stored.Empty small fits =
      let fit = place-within (length xs) r c f hc hf in status_model 0 stored.Empty (grind (arith, common_steps))
  put_model stored.Condemned small fits =
      let fit = place-within (length xs) r c f hc hf in status_model 255 stored.Condemned (grind (arith, common_steps))
  put_model (stored.Held bs) small fits =
      let at = place r c f in
      let fit = place-within (length xs) r c f hc hf in
      let inside : at + (3 + length bs.now) ≤ length xs = omega arith in
      slot-changed xs (with_held xs at bs.now) r (length-with_held xs at bs.now inside) c f (Held bs.now) hc hf
      (λ i o. with_held_others xs at bs.now inside i (⊎_elim inl (λ h. inr (omega arith)) o)) (with_held-slot xs at bs.now inside r fits.0 fits.1 small fits.2)

pub stored_model : (xs zs : List ℕ) (r c f at : ℕ) (s : Stored) → zs ≡ with_stored xs at s → at ≡ place r c f → c < fitting (length xs) r → f < 8 → r ≤ 6400 → Fits r s →
    shelved zs r ≡ with_slot (shelved xs r) c f (slot_of s)
stored_model xs zs r c f at s e is hc hf small fits = rw (e, is) (put_model xs r c f hc hf s small fits)

-- a change of a reach
pub reach_model : (xs : List ℕ) (r c at v : ℕ) (near : Bool) → at ≡ door r c → c < fitting (length xs) r → v ≡ cond near 1 0 → shelved (set xs at v) r ≡ with_reach (shelved xs r) c near
reach_model xs r c at v near is hc byte =
    let same : get_or (set xs (door r c) v) (door r c) 0 ≡ v = get_or-set_same xs (door r c) v 0 (door-within (length xs) r c hc) in
    let told : eqb v 1 ≡ near = grind arith in
    rw is (reach-changed xs (set xs (door r c) v) r (length-set xs (door r c) v) c near hc (λ i ne. get_or-set_other xs (door r c) i v 0 ne) (ap (λ k. eqb k 1) same ∙ told))

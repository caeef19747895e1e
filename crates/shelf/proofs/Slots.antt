-- What a change of bytes does to the row in a memory. Assumes nothing.
use Rattle.std.proofs.Common.{◌≡◌, ℕ, ◌+◌, ◌<◌, ◌≤◌, Bool, eqb, ◌≢◌, ◌⊎◌, List, length, get_or, ap, ◌∙◌, inl, inr, refl, arith, length-drop, length-take}
use Rattle.std.proofs.lemmas.List.{same_lists, get_or-take, get_or-drop, get_or_default}
use Rattle.std.proofs.lemmas.Bool.Decides.{nat_tests}
use Rattle.base.specs.Bytes.{le_value, part}
use Rattle.rows.specs.Model.{Slot, with_slot, with_reach}
use Rattle.rows.proofs.Laws.{same_model}
use Rattle.shelf.specs.Layout.{fitting, door, place, slot_at, shelved}
use Rattle.shelf.proofs.Apart.{door_apart, place_apart, door_differs}

-- equal parts, by their places
pub part_same : (xs ys : List ℕ) (at n : ℕ) → length ys ≡ length xs → ((i : ℕ) → at ≤ i → i < at + n → get_or ys i 0 ≡ get_or xs i 0) → part ys at n ≡ part xs at n
part_same xs ys at n len same =
    same_lists _ _ (simp (length-take, length-drop) (omega arith))
    (λ k d h.
    let hn : k < n = omega (arith, simp (length-take, length-drop) at h) in
    let hx : at + k < length xs = omega (arith, simp (length-take, length-drop) at h) in
    let hy : at + k < length ys = omega arith in
    rw (get_or-take, get_or-drop, get_or-take, get_or-drop) (get_or_default ys (at + k) d 0 hy ∙ same (at + k) (omega arith) (omega arith) ∙ get_or_default xs (at + k) 0 d hx))

module _ (xs ys : List ℕ) (r : ℕ) (len : length ys ≡ length xs) where
  -- a slot is what its own bytes say
  slot_same : (at : ℕ) → ((i : ℕ) → at ≤ i → i < at + (3 + r) → get_or ys i 0 ≡ get_or xs i 0) → slot_at ys r at ≡ slot_at xs r at
  unfolding slot_at
  slot_same at same =
      let head = part_same xs ys (at + 1) 2 len (λ i h k. same i (omega arith) (omega arith)) in
      let body : (n : ℕ) → n ≤ r → part ys (at + 3) n ≡ part xs (at + 3) n = λ n l. part_same xs ys (at + 3) n len (λ i h k. same i (omega arith) (omega arith)) in
      rw (head, same at (omega arith) (omega arith)) (grind (arith, nat_tests, body (le_value (part xs (at + 1) 2))))

  -- a change within one slot
  pub slot-changed : (c f : ℕ) (s : Slot) → c < fitting (length xs) r → f < 8 → ((i : ℕ) → (i < place r c f) ⊎ (place r c f + (3 + r) ≤ i) → get_or ys i 0 ≡ get_or xs i 0) →
      slot_at ys r (place r c f) ≡ s → shelved ys r ≡ with_slot (shelved xs r) c f s
  unfolding shelved
  slot-changed c f s hc hf others is =
      let slot : (d g : ℕ) → g < 8 → ((d ≡ c) × (g ≡ f) → ⊥) → slot_at ys r (place r d g) ≡ slot_at xs r (place r d g) =
      λ d g hg ne. slot_same (place r d g) (λ i h k. others i (elim (place_apart r c f d g hf hg ne) [ inl l ↦ inl (omega arith) | inr l ↦ inr (omega arith) ])) in
      same_model _ _ (ap (λ n. fitting n r) len) refl (λ d. rw (len, others (door r d) (door_apart r c d f hf))) (λ d g. grind (arith, nat_tests, slot d g))

  -- a change of one byte of reach
  pub reach-changed : (c : ℕ) (b : Bool) → c < fitting (length xs) r → ((i : ℕ) → i ≢ door r c → get_or ys i 0 ≡ get_or xs i 0) →
      eqb (get_or ys (door r c) 0) 1 ≡ b → shelved ys r ≡ with_reach (shelved xs r) c b
  unfolding shelved
  reach-changed c b hc others is =
      let reach : (d : ℕ) → (d ≡ c → ⊥) → get_or ys (door r d) 0 ≡ get_or xs (door r d) 0 = λ d ne. others (door r d) (door_differs r c d ne) in
      let slot : (d g : ℕ) → g < 8 → slot_at ys r (place r d g) ≡ slot_at xs r (place r d g) =
      λ d g hg. slot_same (place r d g) (λ i h k. others i (λ e. elim (door_apart r d c g hg) [ inl l ↦ omega arith | inr l ↦ omega arith ])) in
      same_model _ _ (ap (λ n. fitting n r) len) refl (λ d. grind (arith, nat_tests, reach d)) (λ d g. grind (arith, nat_tests, slot d g))

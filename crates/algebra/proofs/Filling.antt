-- A loop that writes g of each element of one list over the front of another. Assumes nothing.
use Rattle.std.proofs.Common.{◌≡◌, ℕ, ◌+◌, ◌<◌, ◌≤◌, min, List, [], ◌∷◌, ◌++◌, map, length, get_or, take, drop, set, sym, ap, ◌∙◌, ⊎_elim, arith}
use Rattle.std.proofs.lemmas.List.{append_assoc, map_more, drop_more, set_at, length-map, length-take, length-take-le, take_all, get_or_append_left, get_or-map}
use Rattle.std.proofs.lemmas.Bool.{cases_lt}
use Rattle.base.specs.Bytes.{over}

module _ (g : ℕ → ℕ) (ps ws : List ℕ) where
  pub mapped_more : (now : List ℕ) (j y : ℕ) → j < length ps → j < length ws → now ≡ map g (take j ps) ++ drop j ws → y ≡ g (get_or ps j 0) →
      set now j y ≡ map g (take (j + 1) ps) ++ drop (j + 1) ws
  mapped_more now j y within room e own =
      let front = map g (take j ps) in
      let long : length front ≡ j = length-map (take j ps) g ∙ length-take-le j ps (omega arith) in
      ap (λ xs. set xs j y) (e ∙ ap (λ xs. front ++ xs) (drop_more ws j 0 room)) ∙ set_at front (get_or ws j 0) (drop (j + 1) ws) y j long
      ∙ ap (λ z. front ++ z ∷ drop (j + 1) ws) own ∙ sym (append_assoc front (g (get_or ps j 0) ∷ []) (drop (j + 1) ws))
      ∙ ap (λ xs. xs ++ drop (j + 1) ws) (sym (map_more g ps j 0 within))

  -- at the end the front is overwritten
  pub mapped_all : (now : List ℕ) (j : ℕ) → j ≡ min (length ps) (length ws) → now ≡ map g (take j ps) ++ drop j ws → now ≡ over (map g (take (length ws) ps)) ws
  mapped_all now j last e =
      let same : take j ps ≡ take (length ws) ps =
      ⊎_elim (λ h. let s : j ≡ length ws = omega arith in ap (λ n. take n ps) s)
      (λ h. let s : length ps ≤ j = omega arith in take_all j ps s ∙ sym (take_all (length ws) ps h)) (cases_lt (length ws) (length ps)) in
      let long : j ≡ length (map g (take (length ws) ps)) = last ∙ sym (length-map (take (length ws) ps) g ∙ length-take (length ws) ps ∙ omega arith) in
      e ∙ ap (λ xs. map g xs ++ drop j ws) same ∙ ap (λ n. map g (take (length ws) ps) ++ drop n ws) long

  pub mapped_at : (i : ℕ) → length ps ≤ length ws → i < length ps → get_or (over (map g (take (length ws) ps)) ws) i 0 ≡ g (get_or ps i 0)
  mapped_at i enough h =
      let whole = take_all (length ws) ps enough in
      ap (λ xs. get_or (over (map g xs) ws) i 0) whole
      ∙ get_or_append_left (map g ps) (drop (length (map g ps)) ws) 0 i (rw length-map h) ∙ get_or-map g ps i 0 0 h

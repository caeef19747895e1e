-- Lists by their places, and a loop that overwrites one place by place with g of the place: its invariant, its step and its
-- end. Assumes nothing.
use Rattle.std.proofs.Common.{◌≡◌, ℕ, ◌+◌, ◌<◌, ◌≤◌, ◌≢◌, List, map, length, get_or, set, refl, ◌∙◌, ⊎_elim, zero-add, arith}
use Rattle.std.specs.List.{range_with_len}
use Rattle.std.proofs.lemmas.List.FromFn.{fill_by_all, get_or-map-range_with_len, length-map-range_with_len}
use Rattle.std.proofs.lemmas.List.Edits.{fill_by_more}
use Rattle.std.proofs.lemmas.List.{length-set, get_or-set_other}
use Rattle.std.proofs.lemmas.Bool.{cases_lt}

-- the places below i hold what g says, and the others what they held
pub record Placed (was now : List ℕ) (i : ℕ) (g : ℕ → ℕ) : Type 0 where
  pub long : length now ≡ length was
  pub done : (k : ℕ) → k < i → get_or now k 0 ≡ g k
  pub rest : (k : ℕ) → i ≤ k → get_or now k 0 ≡ get_or was k 0

pub placed_none : (was : List ℕ) (g : ℕ → ℕ) → Placed was was 0 g
placed_none was g = record { long = refl; done = λ k h. absurd (omega arith); rest = λ k h. refl }

pub placed_more : (was now : List ℕ) (i x : ℕ) (g : ℕ → ℕ) → i < length was → x ≡ g i → Placed was now i g → Placed was (set now i x) (i + 1) g
placed_more was now i x g h e p =
    let within : i < length now = omega (arith, p.long) in
    record {
      long = length-set now i x ∙ p.long;
      done = rw e (fill_by_more g now i 0 within p.done);
      rest = λ k l. let ne : k ≢ i = omega arith in get_or-set_other now i k x 0 ne ∙ p.rest k (omega arith);
    }

-- at the end, where g says of the places that were left what they held
pub placed_rest : (was now : List ℕ) (i : ℕ) (g : ℕ → ℕ) → Placed was now i g → ((k : ℕ) → i ≤ k → k < length was → get_or was k 0 ≡ g k) →
    now ≡ map g (range_with_len 0 (length was))
placed_rest was now i g p left =
    fill_by_all g now (length was) 0 p.long (λ k h. ⊎_elim (λ l. p.done k l) (λ l. p.rest k l ∙ left k l h) (cases_lt k i))

pub placed_all : (was now : List ℕ) (i : ℕ) (g : ℕ → ℕ) → length was ≤ i → Placed was now i g → now ≡ map g (range_with_len 0 (length was))
placed_all was now i g h p = placed_rest was now i g p (λ k l m. absurd (omega arith))

pub same_map : (f g : ℕ → ℕ) (n : ℕ) → ((j : ℕ) → j < n → f j ≡ g j) → map f (range_with_len 0 n) ≡ map g (range_with_len 0 n)
same_map f g n h =
    fill_by_all g (map f (range_with_len 0 n)) n 0 (length-map-range_with_len f 0 n) (λ k l. get_or-map-range_with_len f 0 n k k 0 l (zero-add k) ∙ h k l)

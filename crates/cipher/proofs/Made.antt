-- What array::from_fn makes by a closure that gives f of each place. Assumes nothing.
use Rattle.std.proofs.Common.{◌≡◌, ℕ, zero, suc, ◌+◌, ◌<◌, ◌≤◌, ◌⊎◌, List, map, get_or, sym, ap, ◌∙◌, ⊎_elim, eq-or-lt_of_le, arith}
use denote.Param.Members.{Mut, Called}
use Rattle.std.specs.Array.{IsFromFnResult, IsFromFnResultFrom}
use Rattle.std.specs.List.{range_with_len}
use Rattle.std.proofs.lemmas.List.FromFn.{fill_by_all}

-- Keeps is what stays true of the closure's captures.
module _ {F X : Type 0} (g : Mut F (ℕ × Unit {0}) X) (Keeps : F → Type 0) (f : ℕ → X)
    (turn : (p q : F) (i : ℕ) (x : X) → Keeps p → Called g p (i, tt) x q → (x ≡ f i) × Keeps q) where
  made_from : (n i : ℕ) (p : F) (xs : List X) → Keeps p → IsFromFnResultFrom g p xs i n → (k : ℕ) (d : X) → i ≤ k → k < i + n → get_or xs k d ≡ f k
  made_from zero i p xs kept made k d low high = absurd (omega arith)
  made_from (suc n) i p xs kept made k d low high =
      let next = turn p made.0 i made.1 kept made.3 in
      let w : (i ≡ k) ⊎ (i < k) = eq-or-lt_of_le low in
      ⊎_elim (λ e. ap (λ m. get_or xs m d) (sym e) ∙ made.2.1 d ∙ next.0 ∙ ap f e)
      (λ l. made_from n (i + 1) made.0 xs next.1 made.4 k d (omega arith) (omega arith)) w

  pub made : (n : ℕ) (p : F) (xs : List X) (d : X) → Keeps p → IsFromFnResult g p xs n → xs ≡ map f (range_with_len 0 n)
  made n p xs d kept m = fill_by_all f xs n d m.long (λ k l. made_from n 0 p xs kept m.each k d (omega arith) (omega arith))

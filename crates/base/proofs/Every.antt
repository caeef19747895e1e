-- A loop that makes a test at each number, and stops where it fails. Assumes nothing.
use Rattle.std.proofs.Common.{◌≡◌, ℕ, zero, suc, ◌+◌, ◌<◌, Bool, true, false, ◌&&◌, ◌⊎◌, sym, refl, ap, ◌∙◌, inl, inr, eq-or-lt_of_le, add-one, arith}
use Rattle.std.proofs.lemmas.Bool.{and_from, and_parts, and_left, and_right}
use Rattle.base.specs.Tests.{every}

pub every_none : (test : ℕ → Bool) → every 0 test ≡ true
unfolding every
every_none test = refl

pub every_more : (i : ℕ) (test : ℕ → Bool) → every i test ≡ true → test i ≡ true → every (i + 1) test ≡ true
unfolding every
every_more i test e h = ap (λ n. every n test) (add-one i) ∙ and_from (every i test) (test i) e h

pub every_fails : (n i : ℕ) (test : ℕ → Bool) → i < n → test i ≡ false → every n test ≡ false
unfolding every
every_fails zero i test h e = absurd (omega arith)
every_fails (suc n) i test h e =
    let w : (i ≡ n) ⊎ (i < n) = eq-or-lt_of_le (omega arith) in
    elim w [ inl s ↦ and_right (every n test) (test n) (ap test (sym s) ∙ e) | inr l ↦ and_left (every n test) (test n) (every_fails n i test l e) ]

pub every_at : (n : ℕ) (test : ℕ → Bool) → every n test ≡ true → (i : ℕ) → i < n → test i ≡ true
unfolding every
every_at zero test e i h = absurd (omega arith)
every_at (suc n) test e i h =
    let w : (i ≡ n) ⊎ (i < n) = eq-or-lt_of_le (omega arith) in
    elim w [ inl s ↦ ap test s ∙ (and_parts (every n test) (test n) e).1 | inr l ↦ every_at n test (and_parts (every n test) (test n) e).0 i l ]

pub every_so : (n : ℕ) (test : ℕ → Bool) → ((i : ℕ) → i < n → test i ≡ true) → every n test ≡ true
unfolding every
every_so zero test h = refl
every_so (suc n) test h = and_from (every n test) (test n) (every_so n test (λ i l. h i (omega arith))) (h n (omega arith))

pub every_same : (n : ℕ) (s t : ℕ → Bool) → ((i : ℕ) → i < n → s i ≡ t i) → every n s ≡ every n t
unfolding every
every_same zero s t h = refl
every_same (suc n) s t h = ap (λ b. b && s n) (every_same n s t (λ i l. h i (omega arith))) ∙ ap (λ b. every n t && b) (h n (omega arith))

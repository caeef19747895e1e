-- A test that antt computes at each number below n. Assumes nothing.
use Rattle.std.proofs.Common.{◌≡◌, ℕ, zero, suc, ◌<◌, Bool, true, false, T, ◌⊎◌, sym, subst, inl, inr, eq-or-lt_of_le, arith}

abbrev pub both : Bool → Bool → Bool
both true b = b
both false b = false

abbrev pub below : ℕ → (ℕ → Bool) → Bool
below zero f = true
below (suc n) f = both (f n) (below n f)

pub both_left : (a b : Bool) → T (both a b) → T a
both_left true b t = tt
both_left false b t = t

pub both_right : (a b : Bool) → T (both a b) → T b
both_right true b t = t
both_right false b t = absurd t

pub below_at : (n : ℕ) (f : ℕ → Bool) → T (below n f) → (i : ℕ) → i < n → T (f i)
below_at zero f t i h = absurd (omega arith)
below_at (suc n) f t i h =
    let w : (i ≡ n) ⊎ (i < n) = eq-or-lt_of_le (omega arith) in
    let here : i ≡ n → T (f i) = λ e. subst (λ m. T (f m)) (sym e) (both_left (f n) (below n f) t) in
    elim w [ inl e ↦ here e | inr l ↦ below_at n f (both_right (f n) (below n f) t) i l ]

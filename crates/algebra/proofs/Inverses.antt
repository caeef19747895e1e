-- The first number that passes a test, and the inverse that is found so. Assumes nothing.
use Rattle.std.proofs.Common.{◌≡◌, ℕ, zero, suc, ◌+◌, ◌<◌, ◌≤◌, Bool, true, false, cond, T, eqb, ◌⊎◌, sym, refl, ap, ◌∙◌, subst, inl, inr, eq-or-lt_of_le, arith, eqb→eq, eq-eqb, ne_eqb}
use Rattle.algebra.specs.Fields.{first_from, inverse}

first_step : (test : ℕ → Bool) (at left rest : ℕ) → (test at ≡ false → (test rest ≡ true) × (rest < at + suc left)) →
    (t : Bool) → test at ≡ t → (test (cond t at rest) ≡ true) × (cond t at rest < at + suc left)
first_step test at left rest later true e = (e, omega arith)
first_step test at left rest later false e = later e

differs : (test : ℕ → Bool) (a b : ℕ) → test a ≡ false → test b ≡ true → a ≤ b → a < b
differs test a b ea eb le =
    let w : (a ≡ b) ⊎ (a < b) = eq-or-lt_of_le le in
    let same : a ≡ b → a < b = λ s. let bad : true ≡ false = sym eb ∙ ap test (sym s) ∙ ea in let z : ◌≡◌ {A = ℕ} 0 1 = cc in absurd (omega arith) in
    elim w [ inl s ↦ same s | inr l ↦ l ]

-- where some number of those that are tried passes, the first that does is one of them and passes
first_passes : (at left : ℕ) (test : ℕ → Bool) (b : ℕ) → at ≤ b → b < at + left → test b ≡ true →
    (test (first_from at left test) ≡ true) × (first_from at left test < at + left)
unfolding first_from
first_passes at zero test b low high e = absurd (omega arith)
first_passes at (suc left) test b low high e =
    first_step test at left (first_from (suc at) left test)
    (λ fails. let r = first_passes (suc at) left test b (differs test at b fails e low) (omega arith) e in (r.0, omega (arith, r.1)))
    (test at) refl

-- where none passes, it is 0
first_none : (at left : ℕ) (test : ℕ → Bool) → ((b : ℕ) → at ≤ b → b < at + left → test b ≡ false) → first_from at left test ≡ 0
unfolding first_from
first_none at zero test h = refl
first_none at (suc left) test h =
    ap (λ t. cond t at (first_from (suc at) left test)) (h at (omega arith) (omega arith))
    ∙ first_none (suc at) left test (λ b low high. h b (omega arith) (omega arith))

module _ (size : ℕ) (mul : ℕ → ℕ → ℕ) (a : ℕ) where
  -- what is found is an inverse, if there is one
  pub inverse_found : (b : ℕ) → b < size → mul a b ≡ 1 → (mul a (inverse size mul a) ≡ 1) × (inverse size mul a < size)
  unfolding inverse
  inverse_found b h e =
      let r = first_passes 0 size (λ b. eqb (mul a b) 1) b (omega arith) (omega arith) (eq-eqb (mul a b) 1 e) in
      (eqb→eq _ 1 (subst T (sym r.0) tt), omega (arith, r.1))

  pub inverse_none : ((b : ℕ) → b < size → mul a b ≡ 1 → ⊥) → inverse size mul a ≡ 0
  unfolding inverse
  inverse_none h = first_none 0 size (λ b. eqb (mul a b) 1) (λ b low high. ne_eqb (mul a b) 1 (h b (omega arith)))

  -- and the only one, if there is no other
  pub inverse_is : (b : ℕ) → b < size → mul a b ≡ 1 → ((c : ℕ) → c < size → mul a c ≡ 1 → c ≡ b) → inverse size mul a ≡ b
  inverse_is b h e only = let r = inverse_found b h e in only (inverse size mul a) r.1 r.0

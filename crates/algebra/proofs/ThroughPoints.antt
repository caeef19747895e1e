-- Lagrange's formula gives the one polynomial of degree below k through k points. Assumes nothing.
use Rattle.std.proofs.Common.{◌≡◌, ℕ, zero, suc, ◌<◌, ◌≤◌, cond, ◌⊎◌, sym, refl, ap, ◌∙◌, subst, inl, inr, eq-or-lt_of_le, arith, eq-eqb, ne_eqb}
use native.Mathlib.Decide.{ℕ_discrete}
use Rattle.algebra.specs.Fields.{Ops, Laws}
use Rattle.algebra.specs.Lagrange.{prod_to, factor, weight, lagrange}
use Rattle.algebra.specs.Polynomials.{eval, Points, Through, OnePolynomial, ValueAt, sum_to, weighed}
use Rattle.algebra.proofs.Ring.{zero-code, zero-add, mul_left_comm, mul-zero, zero-mul, sub_self, sub_nonzero}
use Rattle.algebra.proofs.Poly.{Polynomial, determined, poly_zero, poly_one, poly_add, poly_scale, poly_linear, poly_same, apart_pos}

same_or : (a b : ℕ) → (a ≡ b) ⊎ (a ≡ b → ⊥)
same_or a b = elim (ℕ_discrete a b) [ yes e ↦ inl e | no n ↦ inr n ]

factor_same : (f : Ops) (p q x : ℕ) → p ≡ q → factor f p q x ≡ 1
factor_same f p q x e = ap (λ b. cond b 1 (f.mul (f.sub x q) (f.inv (f.sub p q)))) (eq-eqb p q e)

factor_other : (f : Ops) (p q x : ℕ) → (p ≡ q → ⊥) → factor f p q x ≡ f.mul (f.sub x q) (f.inv (f.sub p q))
factor_other f p q x h = ap (λ b. cond b 1 (f.mul (f.sub x q) (f.inv (f.sub p q)))) (ne_eqb p q h)

module _ (f : Ops) (L : Laws f) where
  prod_code : (n : ℕ) (g : ℕ → ℕ) → prod_to f n g < f.size
  prod_code zero g = L.one_code
  prod_code (suc n) g = L.mul_code _ _

  prod_one : (n : ℕ) (g : ℕ → ℕ) → ((i : ℕ) → i < n → g i ≡ 1) → prod_to f n g ≡ 1
  prod_one zero g h = refl
  prod_one (suc n) g h =
      ap (f.mul (prod_to f n g)) (h n (omega arith)) ∙ L.mul-one _ (prod_code n g) ∙ prod_one n g (λ i hi. h i (omega arith))

  prod_zero : (n : ℕ) (g : ℕ → ℕ) (i : ℕ) → i < n → g i ≡ 0 → prod_to f n g ≡ 0
  prod_zero zero g i h e = absurd (omega arith)
  prod_zero (suc n) g i h e =
      let here : i ≡ n → prod_to f (suc n) g ≡ 0 = λ s. ap (f.mul (prod_to f n g)) (ap g (sym s) ∙ e) ∙ mul-zero f L _ in
      let there : i < n → prod_to f (suc n) g ≡ 0 = λ l. ap (λ m. f.mul m (g n)) (prod_zero n g i l e) ∙ zero-mul f L _ in
      let w : (i ≡ n) ⊎ (i < n) = eq-or-lt_of_le (omega arith) in
      elim w [ inl s ↦ here s | inr l ↦ there l ]

  sum-zero : (n : ℕ) (g : ℕ → ℕ) → ((j : ℕ) → j < n → g j ≡ 0) → sum_to f n g ≡ 0
  sum-zero zero g h = refl
  sum-zero (suc n) g h =
      ap (f.add (sum_to f n g)) (h n (omega arith)) ∙ ap (λ m. f.add m 0) (sum-zero n g (λ j hj. h j (omega arith))) ∙ L.add-zero 0 (zero-code f L)

  -- a sum of which only the i-th is not 0
  sum_one : (n : ℕ) (g : ℕ → ℕ) (i v : ℕ) → v < f.size → i < n → g i ≡ v → ((j : ℕ) → j < n → (i ≡ j → ⊥) → g j ≡ 0) → sum_to f n g ≡ v
  sum_one zero g i v hv hi e others = absurd (omega arith)
  sum_one (suc n) g i v hv hi e others =
      let here : i ≡ n → sum_to f (suc n) g ≡ v = λ s.
      ap (f.add (sum_to f n g)) (ap g (sym s) ∙ e) ∙ ap (λ m. f.add m v) (sum-zero n g (λ j hj. others j (omega arith) (λ t. omega arith))) ∙ zero-add f L v hv in
      let there : i < n → sum_to f (suc n) g ≡ v = λ l.
      ap (f.add (sum_to f n g)) (others n (omega arith) (λ t. omega arith)) ∙ ap (λ m. f.add m 0) (sum_one n g i v hv l e (λ j hj ne. others j (omega arith) ne)) ∙ L.add-zero v hv in
      let w : (i ≡ n) ⊎ (i < n) = eq-or-lt_of_le (omega arith) in
      elim w [ inl s ↦ here s | inr l ↦ there l ]

  -- one more factor, of another point, makes the degree one more
  more : (d n p : ℕ) (ps : ℕ → ℕ) → (p ≡ ps n → ⊥) → Polynomial f d (weight f n ps p) → Polynomial f (suc d) (weight f (suc n) ps p)
  unfolding weight
  more d n p ps ne P =
      let q = ps n in
      let c = f.inv (f.sub p q) in
      let g = weight f n ps p in
      poly_same f L (suc d) (λ x. f.mul c (f.mul (f.sub x q) (g x))) (weight f (suc n) ps p)
      (λ x hx. simp (factor_other f p q x ne, L.mul_assoc, L.mul_comm, mul_left_comm f L))
      (poly_scale f L (suc d) (λ x. f.mul (f.sub x q) (g x)) c (poly_linear f L d g q P))

  module _ (k : ℕ) (ps : ℕ → ℕ) (p : Points f k ps) (j : ℕ) (hj : j < k) where
    before : (n : ℕ) → n ≤ j → Polynomial f (suc n) (weight f n ps (ps j))
    unfolding weight
    before zero h = poly_one f L
    before (suc n) h = more (suc n) n (ps j) ps (λ e. omega (arith, p.apart j n hj (omega arith) e)) (before n (omega arith))

    after : (n : ℕ) → j < n → n ≤ k → Polynomial f n (weight f n ps (ps j))
    unfolding weight
    after zero l h = absurd (omega arith)
    after (suc n) l h =
        let here : j ≡ n → Polynomial f (suc n) (weight f (suc n) ps (ps j)) = λ s.
        poly_same f L (suc n) (weight f n ps (ps j)) (weight f (suc n) ps (ps j))
        (λ x hx. sym (ap (f.mul (weight f n ps (ps j) x)) (factor_same f (ps j) (ps n) x (ap ps s)) ∙ L.mul-one _ (prod_code n _)))
        (before n (omega arith)) in
        let there : j < n → Polynomial f (suc n) (weight f (suc n) ps (ps j)) = λ m.
        more n n (ps j) ps (λ e. omega (arith, p.apart j n hj (omega arith) e)) (after n m (omega arith)) in
        let w : (j ≡ n) ⊎ (j < n) = eq-or-lt_of_le (omega arith) in
        elim w [ inl s ↦ here s | inr m ↦ there m ]

    weight_at_own : weight f k ps (ps j) (ps j) ≡ 1
    unfolding weight
    weight_at_own = prod_one k _ (λ i hi.
        let same : ps j ≡ ps i → factor f (ps j) (ps i) (ps j) ≡ 1 = factor_same f (ps j) (ps i) (ps j) in
        let other : (ps j ≡ ps i → ⊥) → factor f (ps j) (ps i) (ps j) ≡ 1 = λ ne.
        factor_other f (ps j) (ps i) (ps j) ne ∙ L.mul_inv _ (L.sub_code _ _) (apart_pos _ (λ z. ne (sub_nonzero f L (ps j) (ps i) (p.code j hj) (p.code i hi) z))) in
        elim (same_or (ps j) (ps i)) [ inl e ↦ same e | inr ne ↦ other ne ])

    weight_at_other : (i : ℕ) → i < k → (i ≡ j → ⊥) → weight f k ps (ps j) (ps i) ≡ 0
    unfolding weight
    weight_at_other i hi ne = prod_zero k _ i hi
        (factor_other f (ps j) (ps i) (ps i) (λ e. ne (sym (p.apart j i hj hi e)))
        ∙ ap (λ m. f.mul m (f.inv (f.sub (ps j) (ps i)))) (sub_self f L (ps i) (p.code i hi)) ∙ zero-mul f L _)

  module _ (k : ℕ) (ps : ℕ → ℕ) (p : Points f k ps) (vs : ℕ → ℕ) where
    -- existence: the formula is a polynomial of degree below k ..
    partial : (n : ℕ) → n ≤ k → Polynomial f k (λ x. sum_to f n (λ j. f.mul (vs j) (weight f k ps (ps j) x)))
    partial zero h = poly_zero f L k
    partial (suc n) h = poly_add f L k _ _ (partial n (omega arith)) (poly_scale f L k (weight f k ps (ps n)) (vs n) (after k ps p n (omega arith) k (omega arith) (omega arith)))

    formula_polynomial : Polynomial f k (lagrange f k ps vs)
    formula_polynomial = partial k (omega arith)

    -- .. that has the values at the points
    formula_at : (i : ℕ) → i < k → vs i < f.size → lagrange f k ps vs (ps i) ≡ vs i
    formula_at i hi hv = sum_one k _ i (vs i) hv hi
        (ap (f.mul (vs i)) (weight_at_own k ps p i hi) ∙ L.mul-one (vs i) hv)
        (λ j hj ne. ap (f.mul (vs j)) (weight_at_other k ps p j hj i hi ne) ∙ mul-zero f L (vs j))

    through : ((i : ℕ) → i < k → vs i < f.size) → Through f k ps vs formula_polynomial.coeffs
    through h = record {
      degree = formula_polynomial.long;
      codes = formula_polynomial.codes;
      passes = λ i hi. formula_polynomial.value (ps i) (p.code i hi) ∙ formula_at i hi (h i hi);
    }

    -- the formula gives the value of the polynomial through the points
    pub formula_value : ((i : ℕ) → i < k → vs i < f.size) → (x : ℕ) → x < f.size → ValueAt f k ps vs x (lagrange f k ps vs x)
    formula_value h x hx = record { polynomial = formula_polynomial.coeffs; through = through h; value = formula_polynomial.value x hx }

  pub sum_same : (n : ℕ) (g h : ℕ → ℕ) → ((i : ℕ) → i < n → g i ≡ h i) → sum_to f n g ≡ sum_to f n h
  sum_same zero g h e = refl
  sum_same (suc n) g h e = ap (λ m. f.add m (g n)) (sum_same n g h (λ i hi. e i (omega arith))) ∙ ap (f.add (sum_to f n h)) (e n (omega arith))

  prod_same : (n : ℕ) (g h : ℕ → ℕ) → ((i : ℕ) → i < n → g i ≡ h i) → prod_to f n g ≡ prod_to f n h
  prod_same zero g h e = refl
  prod_same (suc n) g h e = ap (λ m. f.mul m (g n)) (prod_same n g h (λ i hi. e i (omega arith))) ∙ ap (f.mul (prod_to f n h)) (e n (omega arith))

  -- the formula goes by the first k points and values alone
  pub weight_same : (k : ℕ) (ps qs : ℕ → ℕ) (p x : ℕ) → ((i : ℕ) → i < k → ps i ≡ qs i) → weight f k ps p x ≡ weight f k qs p x
  unfolding weight
  weight_same k ps qs p x e = prod_same k _ _ (λ i hi. ap (λ q. factor f p q x) (e i hi))

  pub lagrange_same : (k : ℕ) (ps qs vs us : ℕ → ℕ) (x : ℕ) → ((i : ℕ) → i < k → ps i ≡ qs i) → ((i : ℕ) → i < k → vs i ≡ us i) →
      lagrange f k ps vs x ≡ lagrange f k qs us x
  lagrange_same k ps qs vs us x ep ev =
      sum_same k _ _ (λ i hi. ap (λ v. f.mul v (weight f k ps (ps i) x)) (ev i hi) ∙ ap (f.mul (us i)) (weight_same k ps qs (ps i) x ep ∙ ap (λ p. weight f k qs p x) (ep i hi)))

  -- and so do numbers that are the formula's weights
  pub weights_value : (k : ℕ) (ps : ℕ → ℕ) → Points f k ps → (ws vs : ℕ → ℕ) → ((i : ℕ) → i < k → vs i < f.size) → (x : ℕ) → x < f.size →
      ((i : ℕ) → i < k → ws i ≡ weight f k ps (ps i) x) → ValueAt f k ps vs x (weighed f k vs ws)
  weights_value k ps p ws vs h x hx e =
      subst (ValueAt f k ps vs x) (sum_same k _ _ (λ i hi. ap (f.mul (vs i)) (sym (e i hi)))) (formula_value k ps p vs h x hx)

  pub one_polynomial : OnePolynomial f
  one_polynomial k ps vs p h =
      let P = through k ps p vs h in
      ((formula_polynomial k ps p vs).coeffs, P, λ ds Q. determined f L k ps vs ds (formula_polynomial k ps p vs).coeffs p Q P)

  -- so two values at one code are one
  pub one_value : (k : ℕ) (ps vs : ℕ → ℕ) (x y z : ℕ) → Points f k ps → ValueAt f k ps vs x y → ValueAt f k ps vs x z → y ≡ z
  one_value k ps vs x y z p Y Z =
      sym Y.value ∙ ap (λ cs. eval f cs x) (determined f L k ps vs Y.polynomial Z.polynomial p Y.through Z.through) ∙ Z.value

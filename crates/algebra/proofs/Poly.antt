-- Polynomials by coefficients: sums, multiples, a linear factor more, and how many roots they have. Assumes nothing.
use Rattle.std.proofs.Common.{◌≡◌, ℕ, zero, suc, ◌<◌, List, [], ◌∷◌, length, sym, refl, ap, ◌∙◌, subst, arith}
use Rattle.std.proofs.lemmas.List.{ext_get_or}
use Rattle.algebra.specs.Fields.{Ops, Laws}
use Rattle.algebra.specs.Polynomials.{eval, at, Points, Through}
use Rattle.algebra.proofs.Ring.{zero-code, zero-add, add_left_comm, mul_left_comm, add-mul, mul-zero, zero-mul, one-mul, neg, neg-add, sub_is, sub_nonzero, no_zero_divisor}

-- g is, on codes, a polynomial of degree below k
pub record Polynomial (f : Ops) (k : ℕ) (g : ℕ → ℕ) : Type 0 where
  pub coeffs : List ℕ
  pub long : length coeffs ≡ k
  pub codes : (i : ℕ) → at coeffs i < f.size
  pub value : (x : ℕ) → x < f.size → eval f coeffs x ≡ g x

abbrev plus : Ops → List ℕ → List ℕ → List ℕ
plus f [] bs = bs
plus f (a ∷ cs) [] = a ∷ cs
plus f (a ∷ cs) (b ∷ bs) = f.add a b ∷ plus f cs bs

abbrev scaled : Ops → ℕ → List ℕ → List ℕ
scaled f c [] = []
scaled f c (a ∷ cs) = f.mul c a ∷ scaled f c cs

-- c + (x + n) times the polynomial
abbrev linear : Ops → ℕ → ℕ → List ℕ → List ℕ
linear f n c [] = c ∷ []
linear f n c (a ∷ cs) = f.add c (f.mul n a) ∷ linear f n a cs

-- what is left of x times the polynomial, less r times its value at r, when x - r is divided out
abbrev synth : Ops → ℕ → List ℕ → List ℕ
synth f r [] = []
synth f r (b ∷ bs) = eval f (b ∷ bs) r ∷ synth f r bs

-- what holds of the head and of each of the rest
zero_first : (b : ℕ) (bs : List ℕ) → b ≡ 0 → ((i : ℕ) → at bs i ≡ 0) → (i : ℕ) → at (b ∷ bs) i ≡ 0
zero_first b bs e h zero = e
zero_first b bs e h (suc i) = h i

pub apart_pos : (n : ℕ) → (n ≡ 0 → ⊥) → 0 < n
apart_pos n h = omega arith

module _ (f : Ops) (L : Laws f) where
  pub eval-code : (cs : List ℕ) (x : ℕ) → eval f cs x < f.size
  eval-code [] x = zero-code f L
  eval-code (a ∷ cs) x = L.add_code a (f.mul x (eval f cs x))

  eval-plus : (cs bs : List ℕ) (x : ℕ) → eval f (plus f cs bs) x ≡ f.add (eval f cs x) (eval f bs x)
  eval-plus [] bs x = sym (zero-add f L (eval f bs x) (eval-code bs x))
  eval-plus (a ∷ cs) [] x = sym (L.add-zero (eval f (a ∷ cs) x) (eval-code (a ∷ cs) x))
  eval-plus (a ∷ cs) (b ∷ bs) x =
      rw (eval-plus cs bs x) (simp (L.mul-add, L.add_assoc, L.add_comm))

  eval-scaled : (c : ℕ) (cs : List ℕ) (x : ℕ) → eval f (scaled f c cs) x ≡ f.mul c (eval f cs x)
  eval-scaled c [] x = sym (mul-zero f L c)
  eval-scaled c (a ∷ cs) x =
      rw (eval-scaled c cs x) (simp (L.mul-add, mul_left_comm f L))

  eval-linear : (n c : ℕ) (cs : List ℕ) (x : ℕ) → eval f (linear f n c cs) x ≡ f.add c (f.mul (f.add x n) (eval f cs x))
  eval-linear n c [] x = simp (mul-zero f L)
  eval-linear n c (a ∷ cs) x =
      rw (eval-linear n a cs x)
      (simp (L.mul-add, add-mul f L, L.add_assoc, L.add_comm, L.mul_comm, mul_left_comm f L))

  length-plus : (cs bs : List ℕ) → length cs ≡ length bs → length (plus f cs bs) ≡ length cs
  length-plus [] bs e = sym e
  length-plus (a ∷ cs) [] e = refl
  length-plus (a ∷ cs) (b ∷ bs) e = ap suc (length-plus cs bs (omega arith))

  length-scaled : (c : ℕ) (cs : List ℕ) → length (scaled f c cs) ≡ length cs
  length-scaled c [] = refl
  length-scaled c (a ∷ cs) = ap suc (length-scaled c cs)

  length-linear : (n c : ℕ) (cs : List ℕ) → length (linear f n c cs) ≡ suc (length cs)
  length-linear n c [] = refl
  length-linear n c (a ∷ cs) = ap suc (length-linear n a cs)

  length-synth : (r : ℕ) (cs : List ℕ) → length (synth f r cs) ≡ length cs
  length-synth r [] = refl
  length-synth r (a ∷ cs) = ap suc (length-synth r cs)

  codes-plus : (cs bs : List ℕ) → ((i : ℕ) → at cs i < f.size) → ((i : ℕ) → at bs i < f.size) → (i : ℕ) → at (plus f cs bs) i < f.size
  codes-plus [] bs hc hb i = hb i
  codes-plus (a ∷ cs) [] hc hb i = hc i
  codes-plus (a ∷ cs) (b ∷ bs) hc hb zero = L.add_code a b
  codes-plus (a ∷ cs) (b ∷ bs) hc hb (suc i) = codes-plus cs bs (λ j. hc (suc j)) (λ j. hb (suc j)) i

  codes-scaled : (c : ℕ) (cs : List ℕ) (i : ℕ) → at (scaled f c cs) i < f.size
  codes-scaled c [] i = zero-code f L
  codes-scaled c (a ∷ cs) zero = L.mul_code c a
  codes-scaled c (a ∷ cs) (suc i) = codes-scaled c cs i

  codes-linear : (n c : ℕ) (cs : List ℕ) → c < f.size → ((i : ℕ) → at cs i < f.size) → (i : ℕ) → at (linear f n c cs) i < f.size
  codes-linear n c [] hc h zero = hc
  codes-linear n c [] hc h (suc i) = zero-code f L
  codes-linear n c (a ∷ cs) hc h zero = L.add_code c (f.mul n a)
  codes-linear n c (a ∷ cs) hc h (suc i) = codes-linear n a cs (h 0) (λ j. h (suc j)) i

  codes-synth : (r : ℕ) (cs : List ℕ) (i : ℕ) → at (synth f r cs) i < f.size
  codes-synth r [] i = zero-code f L
  codes-synth r (b ∷ bs) zero = eval-code (b ∷ bs) r
  codes-synth r (b ∷ bs) (suc i) = codes-synth r bs i

  -- with d = x - r: x R(x) = r R(r) + d S(x)
  divide : (r d : ℕ) (cs : List ℕ) → let x = f.add r d in f.mul x (eval f cs x) ≡ f.add (f.mul r (eval f cs r)) (f.mul d (eval f (synth f r cs) x))
  divide r d [] = simp (mul-zero f L, zero-add f L 0 (zero-code f L))
  divide r d (b ∷ bs) =
      ap (λ n. f.mul (f.add r d) (f.add b n)) (divide r d bs)
      ∙ simp (L.mul-add, add-mul f L, L.add_assoc, add_left_comm f L, mul_left_comm f L)

  -- the value at x, by the value at r and a multiple of x - r
  factored : (r x a : ℕ) (cs : List ℕ) → x < f.size →
      eval f (a ∷ cs) x ≡ f.add (eval f (a ∷ cs) r) (f.mul (f.sub x r) (eval f (synth f r cs) x))
  factored r x a cs h =
      let d = f.sub x r in
      let e : f.add r d ≡ x = L.add_comm r d ∙ L.sub_add x r h in
      let q = eval f (synth f r cs) in
      let P : ℕ → Type 0 = λ y. f.mul y (eval f cs y) ≡ f.add (f.mul r (eval f cs r)) (f.mul d (q y)) in
      ap (f.add a) (subst P e (divide r d cs)) ∙ sym (L.add_assoc a (f.mul r (eval f cs r)) (f.mul d (q x)))

  -- where every partial value at r is 0, so is every coefficient
  all_zero : (r : ℕ) (cs : List ℕ) → ((i : ℕ) → at cs i < f.size) → ((i : ℕ) → at (synth f r cs) i ≡ 0) → (eval f cs r ≡ 0) × ((i : ℕ) → at cs i ≡ 0)
  all_zero r [] h z = (refl, λ i. refl)
  all_zero r (b ∷ bs) h z =
      let rest = all_zero r bs (λ i. h (suc i)) (λ i. z (suc i)) in
      let own : b ≡ 0 =
      sym (L.add-zero b (h 0)) ∙ ap (f.add b) (sym (ap (f.mul r) rest.0 ∙ mul-zero f L r)) ∙ z 0 in
      let each : (i : ℕ) → at (b ∷ bs) i ≡ 0 = zero_first b bs own rest.1 in
      (z 0, each)

  -- a polynomial of degree below k with k roots has no coefficient but 0
  pub vanishes : (k : ℕ) (cs : List ℕ) (ps : ℕ → ℕ) → length cs ≡ k → ((i : ℕ) → at cs i < f.size) → Points f k ps →
      ((i : ℕ) → i < k → eval f cs (ps i) ≡ 0) → (i : ℕ) → at cs i ≡ 0
  vanishes k [] ps e h p roots i = refl
  vanishes zero (a ∷ cs) ps e h p roots i = absurd (omega arith)
  vanishes (suc k) (a ∷ cs) ps e h p roots i =
      let r = ps 0 in
      let q = synth f r cs in
      let at_r : eval f (a ∷ cs) r ≡ 0 = roots 0 (omega arith) in
      let by : (y : ℕ) → y < f.size → eval f (a ∷ cs) y ≡ f.mul (f.sub y r) (eval f q y) =
      λ y hy. factored r y a cs hy ∙ ap (λ n. f.add n (f.mul (f.sub y r) (eval f q y))) at_r ∙ zero-add f L _ (L.mul_code _ _) in
      let rest : (i : ℕ) → i < k → eval f q (ps (suc i)) ≡ 0 =
      λ i hi.
      let c = p.code (suc i) (omega arith) in
      no_zero_divisor f L (f.sub (ps (suc i)) r) (eval f q (ps (suc i))) (L.sub_code _ _) (eval-code q _)
      (apart_pos (f.sub (ps (suc i)) r) (λ z. absurd (omega (arith, p.apart (suc i) 0 (omega arith) (omega arith) (sub_nonzero f L (ps (suc i)) r c (p.code 0 (omega arith)) z)))))
      (sym (by (ps (suc i)) c) ∙ roots (suc i) (omega arith)) in
      let later : Points f k (λ i. ps (suc i)) = record {
        code = λ i hi. p.code (suc i) (omega arith);
        apart = λ i j hi hj same. let t = p.apart (suc i) (suc j) (omega arith) (omega arith) same in omega arith;
      } in
      let none : (i : ℕ) → at q i ≡ 0 = vanishes k q (λ i. ps (suc i)) (length-synth r cs ∙ omega arith) (codes-synth r cs) later rest in
      let tail = all_zero r cs (λ i. h (suc i)) none in
      let head : a ≡ 0 = sym (L.add-zero a (h 0)) ∙ ap (f.add a) (sym (ap (f.mul r) tail.0 ∙ mul-zero f L r)) ∙ at_r in
      zero_first a cs head tail.1 i

  -- a + (-1) b = 0 only where a = b
  opposite : (b : ℕ) → b < f.size → f.add (f.mul (neg f L 1) b) b ≡ 0
  opposite b hb =
      let m = neg f L 1 in
      ap (f.add (f.mul m b)) (sym (one-mul f L b hb)) ∙ sym (add-mul f L m 1 b) ∙ ap (λ n. f.mul n b) (neg-add f L 1) ∙ zero-mul f L b

  equal : (a b : ℕ) → a < f.size → b < f.size → f.add a (f.mul (neg f L 1) b) ≡ 0 → a ≡ b
  equal a b ha hb e =
      let m = neg f L 1 in
      sym (L.add-zero a ha) ∙ ap (f.add a) (sym (opposite b hb)) ∙ sym (L.add_assoc a (f.mul m b) b) ∙ ap (λ n. f.add n b) e ∙ zero-add f L b hb

  at_minus : (m : ℕ) (cs ds : List ℕ) → length cs ≡ length ds → (i : ℕ) → i < length cs → at (plus f cs (scaled f m ds)) i ≡ f.add (at cs i) (f.mul m (at ds i))
  at_minus m [] ds e i h = absurd (omega arith)
  at_minus m (a ∷ cs) [] e i h = absurd (omega arith)
  at_minus m (a ∷ cs) (d ∷ ds) e zero h = refl
  at_minus m (a ∷ cs) (d ∷ ds) e (suc i) h = at_minus m cs ds (omega arith) i (omega arith)

  -- two polynomials of degree below k with the same values at k points are the same
  pub determined : (k : ℕ) (ps vs : ℕ → ℕ) (cs ds : List ℕ) → Points f k ps → Through f k ps vs cs → Through f k ps vs ds → cs ≡ ds
  determined k ps vs cs ds p P Q =
      let m = neg f L 1 in
      let w = plus f cs (scaled f m ds) in
      let even : length cs ≡ length ds = P.degree ∙ sym Q.degree in
      let long : length w ≡ k = length-plus cs (scaled f m ds) (even ∙ sym (length-scaled m ds)) ∙ P.degree in
      let roots : (i : ℕ) → i < k → eval f w (ps i) ≡ 0 =
      λ i hi.
      eval-plus cs (scaled f m ds) (ps i) ∙ ap (f.add (eval f cs (ps i))) (eval-scaled m ds (ps i))
      ∙ ap (λ n. f.add n (f.mul m (eval f ds (ps i)))) (P.passes i hi ∙ sym (Q.passes i hi))
      ∙ L.add_comm _ _ ∙ opposite (eval f ds (ps i)) (eval-code ds (ps i)) in
      let none = vanishes k w ps long (codes-plus cs (scaled f m ds) P.codes (codes-scaled m ds)) p roots in
      ext_get_or 0 cs ds even (λ i hi. equal (at cs i) (at ds i) (P.codes i) (Q.codes i) (sym (at_minus m cs ds even i hi) ∙ none i))

  cons_codes : (a : ℕ) (cs : List ℕ) → a < f.size → ((i : ℕ) → at cs i < f.size) → (i : ℕ) → at (a ∷ cs) i < f.size
  cons_codes a cs ha h zero = ha
  cons_codes a cs ha h (suc i) = h i

  pub poly_zero : (k : ℕ) → Polynomial f k (λ x. 0)
  poly_zero zero = record { coeffs = []; long = refl; codes = λ i. zero-code f L; value = λ x h. refl }
  poly_zero (suc k) =
      let z = poly_zero k in
      record {
        coeffs = 0 ∷ z.coeffs;
        long = ap suc z.long;
        codes = λ i. cons_codes 0 z.coeffs (zero-code f L) z.codes i;
        value = λ x h. ap (λ n. f.add 0 (f.mul x n)) (z.value x h) ∙ ap (f.add 0) (mul-zero f L x) ∙ L.add-zero 0 (zero-code f L);
      }

  pub poly_one : Polynomial f 1 (λ x. 1)
  poly_one = record { coeffs = 1 ∷ []; long = refl; codes = λ i. cons_codes 1 [] L.one_code (λ j. zero-code f L) i; value = λ x h. ap (f.add 1) (mul-zero f L x) ∙ L.add-zero 1 L.one_code }

  pub poly_add : (k : ℕ) (g h : ℕ → ℕ) → Polynomial f k g → Polynomial f k h → Polynomial f k (λ x. f.add (g x) (h x))
  poly_add k g h P Q = record {
    coeffs = plus f P.coeffs Q.coeffs;
    long = length-plus P.coeffs Q.coeffs (P.long ∙ sym Q.long) ∙ P.long;
    codes = codes-plus P.coeffs Q.coeffs P.codes Q.codes;
    value = λ x hx. eval-plus P.coeffs Q.coeffs x ∙ ap (λ n. f.add n (eval f Q.coeffs x)) (P.value x hx) ∙ ap (f.add (g x)) (Q.value x hx);
  }

  pub poly_scale : (k : ℕ) (g : ℕ → ℕ) (c : ℕ) → Polynomial f k g → Polynomial f k (λ x. f.mul c (g x))
  poly_scale k g c P = record {
    coeffs = scaled f c P.coeffs;
    long = length-scaled c P.coeffs ∙ P.long;
    codes = codes-scaled c P.coeffs;
    value = λ x hx. eval-scaled c P.coeffs x ∙ ap (f.mul c) (P.value x hx);
  }

  -- one linear factor more
  pub poly_linear : (k : ℕ) (g : ℕ → ℕ) (q : ℕ) → Polynomial f k g → Polynomial f (suc k) (λ x. f.mul (f.sub x q) (g x))
  poly_linear k g q P =
      let n = neg f L q in
      record {
        coeffs = linear f n 0 P.coeffs;
        long = length-linear n 0 P.coeffs ∙ ap suc P.long;
        codes = codes-linear n 0 P.coeffs (zero-code f L) P.codes;
        value = λ x hx. eval-linear n 0 P.coeffs x ∙ zero-add f L _ (L.mul_code _ _) ∙ ap (f.mul (f.add x n)) (P.value x hx)
            ∙ ap (λ d. f.mul d (g x)) (sym (sub_is f L x q hx));
      }

  -- the same values
  pub poly_same : (k : ℕ) (g h : ℕ → ℕ) → ((x : ℕ) → x < f.size → g x ≡ h x) → Polynomial f k g → Polynomial f k h
  poly_same k g h e P = record { coeffs = P.coeffs; long = P.long; codes = P.codes; value = λ x hx. P.value x hx ∙ e x hx }

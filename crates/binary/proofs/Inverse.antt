-- Every nonzero code has an inverse, its power 2^n - 2, by tests at powers of two: squaring is additive, n squarings are the identity,
-- and a code that is its own square is 0 or 1. Assumes nothing.
use mathlib.Core.Path.{◌≡◌, refl, sym, ap, ◌∙◌}
use mathlib.Core.List.{List, [], ◌∷◌}
use Prim.Native.Nat.{ℕ, zero, suc, pred, ◌/◌, ◌%◌, ◌^◌, ◌<◌}
use native.Mathlib.Nat.{mod-lt}
use native.Mathlib.Omega.{arith}
use lib.Dec.{lit<}
use lib.Bits.{bit_xor, xor_lt, xor_self, xor_zero_l, xor_zero_r, xor_assoc, xor_mod, xor_shr}
use lib.Pow.{pow_pos, pow-lt}
use Rattle.binary.specs.Binary.{sel, product}
use Rattle.binary.proofs.Linear.{span, product-xor, xor-product, zero-product, sel-xor, swapped}
use Rattle.binary.proofs.Bilinear.{Basis, product_lt, product-comm, product-assoc, product_one}

-- an additive map, by its values at powers of two
abbrev pub apply : List ℕ → ℕ → ℕ
apply [] y = 0
apply (c ∷ cs) y = bit_xor (sel (y % 2) c) (apply cs (y / 2))

mod_two : (a : ℕ) → a % 2 < 2
mod_two a = mod-lt a (lit< tt)

apply-xor : (cs : List ℕ) (x y : ℕ) → apply cs (bit_xor x y) ≡ bit_xor (apply cs x) (apply cs y)
apply-xor [] x y = refl
apply-xor (c ∷ cs) x y =
    ap (λ k. bit_xor (sel k c) (apply cs (bit_xor x y / 2))) (xor_mod x y 1)
    ∙ ap (λ k. bit_xor k (apply cs (bit_xor x y / 2))) (sel-xor (x % 2) (y % 2) c (mod_two x) (mod_two y))
    ∙ ap (bit_xor (bit_xor (sel (x % 2) c) (sel (y % 2) c))) (ap (apply cs) (xor_shr x y 1) ∙ apply-xor cs (x / 2) (y / 2))
    ∙ swapped (sel (x % 2) c) (sel (y % 2) c) (apply cs (x / 2)) (apply cs (y / 2))

-- a to the power 2^(m+1) - 2
unfoldable pub tower : ℕ → ℕ → ℕ → ℕ → ℕ
tower n modulus zero a = 1
tower n modulus (suc m) a = let r = product n modulus a (tower n modulus m a) in product n modulus r r

-- a squared so many times
unfoldable pub frob : ℕ → ℕ → ℕ → ℕ → ℕ
frob n modulus zero a = a
frob n modulus (suc i) a = let r = frob n modulus i a in product n modulus r r

-- the tests at powers of two: n squarings are the identity, and cs undoes the square plus the code, but for the lowest bit
pub record Squares (n modulus : ℕ) (cs : List ℕ) : Type 0 where
  pub bits : 1 < n
  pub round : (i : ℕ) → i < n → frob n modulus n (2 ^ i) ≡ 2 ^ i
  pub fixed : (i : ℕ) → i < n → bit_xor (apply cs (bit_xor (product n modulus (2 ^ i) (2 ^ i)) (2 ^ i))) (2 ^ i) ≡ 2 ^ i % 2

module _ (n modulus : ℕ) (cs : List ℕ) (B : Basis n modulus) (S : Squares n modulus cs) where
  abbrev m : ℕ → ℕ → ℕ
  m = product n modulus

  abbrev Code : ℕ → Type 0
  Code a = a < 2 ^ n

  sq_xor : (a b : ℕ) → Code a → Code b → m (bit_xor a b) (bit_xor a b) ≡ bit_xor (m a a) (m b b)
  sq_xor a b ha hb =
      xor-product n modulus a b (bit_xor a b) ∙ ap (λ x. bit_xor x (m b (bit_xor a b))) (product-xor n modulus a a b) ∙ ap (bit_xor (bit_xor (m a a) (m a b))) (product-xor n modulus b a b)
      ∙ ap (λ x. bit_xor (bit_xor (m a a) x) (bit_xor (m b a) (m b b))) (product-comm n modulus B a b ha hb) ∙ crossed (m a a) (m b a) (m b b)
    where
      crossed : (x y z : ℕ) → bit_xor (bit_xor x y) (bit_xor y z) ≡ bit_xor x z
      crossed x y z = xor_assoc x y (bit_xor y z) ∙ ap (bit_xor x) (sym (xor_assoc y y z) ∙ ap (λ k. bit_xor k z) (xor_self y) ∙ xor_zero_l z)

  sq_mul : (a b : ℕ) → Code a → Code b → m (m a b) (m a b) ≡ m (m a a) (m b b)
  sq_mul a b ha hb =
      let ab = product_lt n modulus B a b ha hb in
      product-assoc n modulus B a b (m a b) ha hb ab
      ∙ ap (m a) (sym (product-assoc n modulus B b a b hb ha hb) ∙ ap (λ x. m x b) (product-comm n modulus B b a hb ha) ∙ product-assoc n modulus B a b b ha hb hb)
      ∙ sym (product-assoc n modulus B a a (m b b) ha ha (product_lt n modulus B b b hb hb))

  frob-lt : (i a : ℕ) → Code a → Code (frob n modulus i a)
  unfolding frob
  frob-lt zero a h = h
  frob-lt (suc i) a h = product_lt n modulus B _ _ (frob-lt i a h) (frob-lt i a h)

  frob-xor : (i a b : ℕ) → Code a → Code b → frob n modulus i (bit_xor a b) ≡ bit_xor (frob n modulus i a) (frob n modulus i b)
  unfolding frob
  frob-xor zero a b ha hb = refl
  frob-xor (suc i) a b ha hb = ap (λ x. m x x) (frob-xor i a b ha hb) ∙ sq_xor _ _ (frob-lt i a ha) (frob-lt i b hb)

  frob-zero : (i : ℕ) → frob n modulus i 0 ≡ 0
  unfolding frob
  frob-zero zero = refl
  frob-zero (suc i) = ap (λ x. m x x) (frob-zero i) ∙ zero-product n modulus 0

  -- n squarings give the code back
  frob-round : (a : ℕ) → Code a → frob n modulus n a ≡ a
  frob-round a h = (span n (λ a. Code a × (frob n modulus n a ≡ a)) (pow_pos n, frob-zero n)
      (λ a b p q. (xor_lt n a b p.0 q.0, frob-xor n a b p.0 q.0 ∙ ap (λ x. bit_xor x (frob n modulus n b)) p.1 ∙ ap (bit_xor a) q.1))
      (λ i hi. (pow-lt-at i hi, S.round i hi)) a h).1
    where
      pow-lt-at : (i : ℕ) → i < n → 2 ^ i < 2 ^ n
      pow-lt-at i hi = pow-lt hi

  one_lt : Code 1
  one_lt = let h : 0 < n = omega (arith, S.bits) in pow-lt {i = 0} h

  pub tower-lt : (k a : ℕ) → Code a → Code (tower n modulus k a)
  unfolding tower
  tower-lt zero a h = one_lt
  tower-lt (suc k) a h = let r = product_lt n modulus B a (tower n modulus k a) h (tower-lt k a h) in product_lt n modulus B _ _ r r

  -- a^(2^(k+1) - 1) a = a^(2^(k+1))
  tower-frob : (k a : ℕ) → Code a → m (m a (tower n modulus k a)) a ≡ frob n modulus (suc k) a
  unfolding tower frob
  tower-frob zero a h = ap (λ x. m x a) (product_one n modulus B a h)
  tower-frob (suc k) a h =
      let t = m a (tower n modulus k a) in
      let ht = product_lt n modulus B a (tower n modulus k a) h (tower-lt k a h) in
      let hs = product_lt n modulus B t t ht ht in
      ap (λ x. m x a) (product-comm n modulus B a (m t t) h hs) ∙ product-assoc n modulus B (m t t) a a hs h h
      ∙ sym (sq_mul t a ht h) ∙ ap (λ x. m x x) (tower-frob k a h)

  -- a code that is its own square is 0 or 1
  fixed_all : (a : ℕ) → Code a → bit_xor (apply cs (bit_xor (m a a) a)) a ≡ a % 2
  fixed_all a h = (span n (λ a. Code a × (bit_xor (apply cs (bit_xor (m a a) a)) a ≡ a % 2))
      (pow_pos n, ap (λ x. bit_xor (apply cs (bit_xor x 0)) 0) (zero-product n modulus 0) ∙ xor_zero_r _ ∙ apply-zero)
      (λ a b p q. (
        xor_lt n a b p.0 q.0,
        ap (λ x. bit_xor (apply cs (bit_xor x (bit_xor a b))) (bit_xor a b)) (sq_xor a b p.0 q.0)
            ∙ ap (λ x. bit_xor (apply cs x) (bit_xor a b)) (swapped (m a a) (m b b) a b)
            ∙ ap (λ x. bit_xor x (bit_xor a b)) (apply-xor cs (bit_xor (m a a) a) (bit_xor (m b b) b))
            ∙ swapped (apply cs (bit_xor (m a a) a)) (apply cs (bit_xor (m b b) b)) a b
            ∙ ap (λ x. bit_xor x (bit_xor (apply cs (bit_xor (m b b) b)) b)) p.1 ∙ ap (bit_xor (a % 2)) q.1 ∙ sym (xor_mod a b 1),
      ))
      (λ i hi. (pow-lt hi, S.fixed i hi)) a h).1
    where
      apply-zero : apply cs 0 ≡ 0
      apply-zero = apply-xor cs 0 0 ∙ xor_self (apply cs 0)

  idempotent : (e : ℕ) → Code e → m e e ≡ e → e ≡ e % 2
  idempotent e h s =
      sym (ap (λ x. bit_xor x e) (ap (λ x. apply cs (bit_xor x e)) s ∙ ap (apply cs) (xor_self e) ∙ apply-none) ∙ xor_zero_l e) ∙ fixed_all e h
    where
      apply-none : apply cs 0 ≡ 0
      apply-none = apply-xor cs 0 0 ∙ xor_self (apply cs 0)

  pub tower-inverse : (a : ℕ) → Code a → 0 < a → m a (tower n modulus (pred n) a) ≡ 1
  tower-inverse a h pos =
      let v = tower n modulus (pred n) a in
      let hv = tower-lt (pred n) a h in
      let e = m a v in
      let he = product_lt n modulus B a v h hv in
      let whole : suc (pred n) ≡ n = omega (arith, S.bits) in
      let back : m e a ≡ a = tower-frob (pred n) a h ∙ ap (λ k. frob n modulus k a) whole ∙ frob-round a h in
      let own : m e e ≡ e = sym (product-assoc n modulus B e a v he h hv) ∙ ap (λ x. m x v) back in
      let bit : e ≡ e % 2 = idempotent e he own in
      let some : (e ≡ 0) → ⊥ = λ z. let zero_a : a ≡ 0 = sym back ∙ ap (λ x. m x a) z ∙ zero-product n modulus a in omega arith in
      let two = mod_two e in
      omega arith

-- The laws of the product, from tests at powers of two. Assumes nothing.
use mathlib.Core.Path.{◌≡◌, sym, ap, subst, ◌∙◌}
use Prim.Native.Nat.{ℕ, ◌^◌, ◌<◌}
use lib.Bits.{bit_xor, xor_lt}
use lib.Pow.{pow_pos}
use Rattle.binary.specs.Binary.{product}
use Rattle.binary.proofs.Linear.{span, product-xor, xor-product, product-zero, zero-product}

-- the laws at powers of two
pub record Basis (n modulus : ℕ) : Type 0 where
  pub low : (i j : ℕ) → i < n → j < n → product n modulus (2 ^ i) (2 ^ j) < 2 ^ n
  pub comm : (i j : ℕ) → i < n → j < n → product n modulus (2 ^ i) (2 ^ j) ≡ product n modulus (2 ^ j) (2 ^ i)
  pub assoc : (i j k : ℕ) → i < n → j < n → k < n → product n modulus (product n modulus (2 ^ i) (2 ^ j)) (2 ^ k) ≡ product n modulus (2 ^ i) (product n modulus (2 ^ j) (2 ^ k))
  pub one : (i : ℕ) → i < n → product n modulus (2 ^ i) 1 ≡ 2 ^ i

module _ (n modulus : ℕ) (B : Basis n modulus) where
  abbrev m : ℕ → ℕ → ℕ
  m = product n modulus

  right : (a b c : ℕ) → m a (bit_xor b c) ≡ bit_xor (m a b) (m a c)
  right a b c = product-xor n modulus a b c

  left : (a b c : ℕ) → m (bit_xor a b) c ≡ bit_xor (m a c) (m b c)
  left a b c = xor-product n modulus a b c

  right_zero : (a : ℕ) → m a 0 ≡ 0
  right_zero a = product-zero n modulus a

  left_zero : (a : ℕ) → m 0 a ≡ 0
  left_zero a = zero-product n modulus a

  pub product_lt : (a b : ℕ) → a < 2 ^ n → b < 2 ^ n → m a b < 2 ^ n
  product_lt a b ha hb =
      span n (λ a. m a b < 2 ^ n) (subst (λ x. x < 2 ^ n) (sym (left_zero b)) (pow_pos n))
      (λ a c ih jh. subst (λ x. x < 2 ^ n) (sym (left a c b)) (xor_lt n (m a b) (m c b) ih jh))
      (λ i hi. span n (λ b. m (2 ^ i) b < 2 ^ n) (subst (λ x. x < 2 ^ n) (sym (right_zero (2 ^ i))) (pow_pos n))
      (λ b c ih jh. subst (λ x. x < 2 ^ n) (sym (right (2 ^ i) b c)) (xor_lt n (m (2 ^ i) b) (m (2 ^ i) c) ih jh))
      (λ j hj. B.low i j hi hj) b hb)
      a ha

  pub product-comm : (a b : ℕ) → a < 2 ^ n → b < 2 ^ n → m a b ≡ m b a
  product-comm a b ha hb =
      span n (λ a. m a b ≡ m b a) (left_zero b ∙ sym (right_zero b))
      (λ a c ih jh. left a c b ∙ ap (λ x. bit_xor x (m c b)) ih ∙ ap (bit_xor (m b a)) jh ∙ sym (right b a c))
      (λ i hi. span n (λ b. m (2 ^ i) b ≡ m b (2 ^ i)) (right_zero (2 ^ i) ∙ sym (left_zero (2 ^ i)))
      (λ b c ih jh. right (2 ^ i) b c ∙ ap (λ x. bit_xor x (m (2 ^ i) c)) ih ∙ ap (bit_xor (m b (2 ^ i))) jh ∙ sym (left b c (2 ^ i)))
      (λ j hj. B.comm i j hi hj) b hb)
      a ha

  pub product_one : (a : ℕ) → a < 2 ^ n → m a 1 ≡ a
  product_one a ha =
      span n (λ a. m a 1 ≡ a) (left_zero 1)
      (λ a c ih jh. left a c 1 ∙ ap (λ x. bit_xor x (m c 1)) ih ∙ ap (bit_xor a) jh)
      B.one a ha

  pub product-assoc : (a b c : ℕ) → a < 2 ^ n → b < 2 ^ n → c < 2 ^ n → m (m a b) c ≡ m a (m b c)
  product-assoc a b c ha hb hc =
      span n (λ a. m (m a b) c ≡ m a (m b c)) (ap (λ x. m x c) (left_zero b) ∙ left_zero c ∙ sym (left_zero (m b c)))
      (λ a d ih jh. ap (λ x. m x c) (left a d b) ∙ left (m a b) (m d b) c ∙ ap (λ x. bit_xor x (m (m d b) c)) ih ∙ ap (bit_xor (m a (m b c))) jh ∙ sym (left a d (m b c)))
      (λ i hi. span n (λ b. m (m (2 ^ i) b) c ≡ m (2 ^ i) (m b c))
      (ap (λ x. m x c) (right_zero (2 ^ i)) ∙ left_zero c ∙ sym (ap (m (2 ^ i)) (left_zero c) ∙ right_zero (2 ^ i)))
      (λ b d ih jh. ap (λ x. m x c) (right (2 ^ i) b d) ∙ left (m (2 ^ i) b) (m (2 ^ i) d) c ∙ ap (λ x. bit_xor x (m (m (2 ^ i) d) c)) ih ∙ ap (bit_xor (m (2 ^ i) (m b c))) jh
      ∙ sym (ap (m (2 ^ i)) (left b d c) ∙ right (2 ^ i) (m b c) (m d c)))
      (λ j hj. span n (λ c. m (m (2 ^ i) (2 ^ j)) c ≡ m (2 ^ i) (m (2 ^ j) c))
      (right_zero (m (2 ^ i) (2 ^ j)) ∙ sym (ap (m (2 ^ i)) (right_zero (2 ^ j)) ∙ right_zero (2 ^ i)))
      (λ c d ih jh. right (m (2 ^ i) (2 ^ j)) c d ∙ ap (λ x. bit_xor x (m (m (2 ^ i) (2 ^ j)) d)) ih ∙ ap (bit_xor (m (2 ^ i) (m (2 ^ j) c))) jh
      ∙ sym (ap (m (2 ^ i)) (right (2 ^ j) c d) ∙ right (2 ^ i) (m (2 ^ j) c) (m (2 ^ j) d)))
      (λ k hk. B.assoc i j k hi hj hk) c hc)
      b hb)
      a ha

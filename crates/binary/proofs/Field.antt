-- A field of 2^n codes, from a few tests that antt computes: n * n * n products at most. Assumes nothing.
use mathlib.Core.Path.{◌≡◌, sym, ap, ◌∙◌}
use mathlib.Core.Bool.{Bool}
use mathlib.Core.List.{List}
use Prim.Native.Nat.{ℕ, zero, suc, pred, ◌%◌, ◌^◌, ◌<◌}
use native.Mathlib.Omega.{arith}
use lib.Dec.{T, eqb, ltb, eqb→eq, ltb→lt}
use lib.Bits.{bit_xor, xor_lt, xor_comm, xor_assoc, xor_self, xor_zero_r}
use lib.Pow.{pow-lt}
use Rattle.algebra.specs.Fields.{Laws, inverse}
use Rattle.algebra.proofs.Inverses.{inverse_found, inverse_none, inverse_is}
use Rattle.algebra.proofs.Reading.{OnCodes, lawful}
use Rattle.binary.specs.Binary.{product, on_codes, binary_field}
use Rattle.binary.proofs.Linear.{product-xor, zero-product}
use Rattle.algebra.proofs.Tests.{below, below_at}
use Rattle.binary.proofs.Bilinear.{Basis, product_lt, product-comm, product-assoc, product_one}
use Rattle.binary.proofs.Inverse.{Squares, frob, apply, tower, tower-lt, tower-inverse}

module _ (n modulus : ℕ) (cs : List ℕ) where
  unfoldable pub low : ℕ → ℕ → Bool
  low i j = ltb (product n modulus (2 ^ i) (2 ^ j)) (2 ^ n)

  unfoldable pub comm : ℕ → ℕ → Bool
  comm i j = eqb (product n modulus (2 ^ i) (2 ^ j)) (product n modulus (2 ^ j) (2 ^ i))

  unfoldable pub assoc : ℕ → ℕ → ℕ → Bool
  assoc i j k = eqb (product n modulus (product n modulus (2 ^ i) (2 ^ j)) (2 ^ k)) (product n modulus (2 ^ i) (product n modulus (2 ^ j) (2 ^ k)))

  unfoldable pub one : ℕ → Bool
  one i = eqb (product n modulus (2 ^ i) 1) (2 ^ i)

  unfoldable pub round : ℕ → Bool
  round i = eqb (frob n modulus n (2 ^ i)) (2 ^ i)

  unfoldable pub fixed : ℕ → Bool
  fixed i = eqb (bit_xor (apply cs (bit_xor (product n modulus (2 ^ i) (2 ^ i)) (2 ^ i))) (2 ^ i)) (2 ^ i % 2)

  -- the tests that antt computes
  pub record Passed : Type 0 where
    pub lows : T (below n (λ i. below n (λ j. low i j)))
    pub comms : T (below n (λ i. below n (λ j. comm i j)))
    pub assocs : T (below n (λ i. below n (λ j. below n (λ k. assoc i j k))))
    pub ones : T (below n one)
    pub rounds : T (below n round)
    pub fixeds : T (below n fixed)

  pub basis_of : Passed → Basis n modulus
  unfolding low comm assoc one
  basis_of t = record {
    low = λ i j hi hj. ltb→lt _ _ (below_at n (low i) (below_at n (λ i. below n (λ j. low i j)) t.lows i hi) j hj);
    comm = λ i j hi hj. eqb→eq _ _ (below_at n (comm i) (below_at n (λ i. below n (λ j. comm i j)) t.comms i hi) j hj);
    assoc = λ i j k hi hj hk. eqb→eq _ _ (below_at n (assoc i j) (below_at n (λ j. below n (λ k. assoc i j k)) (below_at n (λ i. below n (λ j. below n (λ k. assoc i j k))) t.assocs i hi) j hj) k hk);
    one = λ i hi. eqb→eq _ _ (below_at n one t.ones i hi);
  }

  pub squares_of : 1 < n → Passed → Squares n modulus cs
  unfolding round fixed
  squares_of h t = record {
    bits = h;
    round = λ i hi. eqb→eq _ _ (below_at n round t.rounds i hi);
    fixed = λ i hi. eqb→eq _ _ (below_at n fixed t.fixeds i hi);
  }

undone : (a b : ℕ) → bit_xor (bit_xor a b) b ≡ a
undone a b = xor_assoc a b b ∙ ap (bit_xor a) (xor_self b) ∙ xor_zero_r a

module _ (n modulus : ℕ) (cs : List ℕ) (large : 1 < n) (t : Passed n modulus cs) where
  abbrev pub basis : Basis n modulus
  basis = basis_of n modulus cs t

  abbrev squares : Squares n modulus cs
  squares = squares_of n modulus cs large t

  abbrev m : ℕ → ℕ → ℕ
  m = product n modulus

  one_code : 1 < 2 ^ n
  one_code = pow-lt {i = 0} (omega arith)

  some : (a : ℕ) → a < 2 ^ n → 0 < a → (m a (inverse (2 ^ n) m a) ≡ 1) × (inverse (2 ^ n) m a < 2 ^ n)
  some a h pos = inverse_found (2 ^ n) m a (tower n modulus (pred n) a) (tower-lt n modulus cs basis squares (pred n) a h) (tower-inverse n modulus cs basis squares a h pos)

  none : inverse (2 ^ n) m 0 ≡ 0
  none = inverse_none (2 ^ n) m 0 (λ b h e. let z : ◌≡◌ {A = ℕ} 0 1 = sym (zero-product n modulus b) ∙ e in omega arith)

  inv-lt : (a : ℕ) → a < 2 ^ n → inverse (2 ^ n) m a < 2 ^ n
  inv-lt zero h = rw none (omega (arith, one_code))
  inv-lt (suc a) h = (some (suc a) h (omega arith)).1

  -- an inverse is the inverse
  pub only_inverse : (a b : ℕ) → a < 2 ^ n → b < 2 ^ n → m a b ≡ 1 → inverse (2 ^ n) m a ≡ b
  only_inverse a b ha hb e = inverse_is (2 ^ n) m a b hb e (λ c hc ec.
      sym (product_one n modulus basis c hc) ∙ ap (m c) (sym e) ∙ sym (product-assoc n modulus basis c a b hc ha hb)
      ∙ ap (λ x. m x b) (product-comm n modulus basis c a hc ha ∙ ec) ∙ product-comm n modulus basis 1 b one_code hb ∙ product_one n modulus basis b hb)

  pub no_inverse : inverse (2 ^ n) m 0 ≡ 0
  no_inverse = none

  on : OnCodes (on_codes n modulus)
  on = record {
    one_code = one_code;
    add_code = λ a b ha hb. xor_lt n a b ha hb;
    sub_code = λ a b ha hb. xor_lt n a b ha hb;
    mul_code = product_lt n modulus basis;
    inv_code = inv-lt;
    add_comm = λ a b ha hb. xor_comm a b;
    add_assoc = λ a b c ha hb hc. xor_assoc a b c;
    mul_comm = product-comm n modulus basis;
    mul_assoc = product-assoc n modulus basis;
    mul-add = λ a b c ha hb hc. product-xor n modulus a b c;
    add-zero = λ a h. xor_zero_r a;
    mul-one = product_one n modulus basis;
    sub_add = λ a b ha hb. undone a b;
    add_sub = λ a b ha hb. undone a b;
    mul_inv = λ a h pos. (some a h pos).0;
    inv_zero = none;
  }

  pub binary_laws : Laws (binary_field n modulus)
  binary_laws = lawful (on_codes n modulus) on

-- The product of polynomials over bits is additive on both sides, and what holds of sums and of each power of two holds of
-- every number of n bits. Assumes nothing.
use mathlib.Core.Path.{◌≡◌, refl, sym, ap, subst, ◌∙◌}
use mathlib.Core.Bool.{true, false, cond}
use Prim.Native.Nat.{ℕ, zero, suc, ◌+◌, ◌*◌, ◌/◌, ◌%◌, ◌^◌, ◌<◌}
use native.Mathlib.Nat.{mod-lt, div-add-mod', div-lt_iff_lt-mul, pow-succ', zero-mul, one-mul, add-zero}
use lib.Dec.{eqb, lit<}
use native.Mathlib.Omega.{arith}
use lib.Bits.{bit_xor, xor_zero_l, xor_zero_r, xor_comm, xor_assoc, xor_self, xor_shifted, xor_shr, xor_mod, xor_block}
use lib.Pow.{pow_pos}
use Rattle.binary.specs.Binary.{sel, carryless, remainder, product}

pub xor_left_comm : (a b c : ℕ) → bit_xor a (bit_xor b c) ≡ bit_xor b (bit_xor a c)
xor_left_comm a b c = sym (xor_assoc a b c) ∙ ap (λ n. bit_xor n c) (xor_comm a b) ∙ xor_assoc b a c

-- the top bit and the rest
split : (n a : ℕ) → bit_xor (a / 2 ^ n * 2 ^ n) (a % 2 ^ n) ≡ a
split n a = xor_shifted (a / 2 ^ n) n (a % 2 ^ n) (mod-lt a (pow_pos n)) ∙ div-add-mod' a (2 ^ n)

high : (n a : ℕ) → a < 2 ^ suc n → a / 2 ^ n < 2
high n a h = (div-lt_iff_lt-mul (pow_pos n)).1 (subst (λ m. a < m) (pow-succ' 2 n) h)

pub span : (n : ℕ) (P : ℕ → Type 0) → P 0 → ((a b : ℕ) → P a → P b → P (bit_xor a b)) → ((i : ℕ) → i < n → P (2 ^ i)) → (a : ℕ) → a < 2 ^ n → P a
span zero P none both one a h = let e : 0 ≡ a = omega arith in subst P e none
span (suc n) P none both one a h =
    subst P (split n a) (both (a / 2 ^ n * 2 ^ n) (a % 2 ^ n) (top (a / 2 ^ n) (high n a h)) (span n P none both (λ i hi. one i (omega arith)) (a % 2 ^ n) (mod-lt a (pow_pos n))))
  where
    top : (q : ℕ) → q < 2 → P (q * 2 ^ n)
    top zero hq = subst P (sym (zero-mul (2 ^ n))) none
    top (suc zero) hq = subst P (sym (one-mul (2 ^ n))) (one n (omega arith))
    top (suc (suc q)) hq = absurd (omega arith)

-- the two middle ones change places
pub swapped : (a b c d : ℕ) → bit_xor (bit_xor a b) (bit_xor c d) ≡ bit_xor (bit_xor a c) (bit_xor b d)
swapped a b c d = simp (xor_assoc, xor_left_comm)

pub sel-xor : (b c v : ℕ) → b < 2 → c < 2 → sel (bit_xor b c) v ≡ bit_xor (sel b v) (sel c v)
sel-xor zero c v hb hc = ap (λ k. sel k v) (xor_zero_l c) ∙ sym (xor_zero_l (sel c v))
sel-xor (suc zero) zero v hb hc = sym (xor_zero_r v)
sel-xor (suc zero) (suc zero) v hb hc = sym (xor_self v)
sel-xor (suc zero) (suc (suc c)) v hb hc = absurd (omega arith)
sel-xor (suc (suc b)) c v hb hc = absurd (omega arith)

sel_of_xor : (b u v : ℕ) → sel b (bit_xor u v) ≡ bit_xor (sel b u) (sel b v)
sel_of_xor b u v = elim (eqb b 0) as (λ t. cond t 0 (bit_xor u v) ≡ bit_xor (cond t 0 u) (cond t 0 v)) [ true ↦ refl | false ↦ refl ]

mod_two : (a : ℕ) → a % 2 < 2
mod_two a = mod-lt a (lit< tt)

double-xor : (a b : ℕ) → bit_xor a b * 2 ≡ bit_xor (a * 2) (b * 2)
double-xor a b = sym (simp (add-zero) at (xor_block 1 a b 0 0 (lit< tt) (lit< tt)))

carryless-xor : (m a b c : ℕ) → carryless m a (bit_xor b c) ≡ bit_xor (carryless m a b) (carryless m a c)
unfolding carryless
carryless-xor zero a b c = refl
carryless-xor (suc m) a b c =
    let t = a * 2 in
    ap (λ k. bit_xor (sel k a) (carryless m t (bit_xor b c / 2))) (xor_mod b c 1)
    ∙ ap (λ k. bit_xor k (carryless m t (bit_xor b c / 2))) (sel-xor (b % 2) (c % 2) a (mod_two b) (mod_two c))
    ∙ ap (bit_xor (bit_xor (sel (b % 2) a) (sel (c % 2) a))) (ap (carryless m t) (xor_shr b c 1) ∙ carryless-xor m t (b / 2) (c / 2))
    ∙ swapped (sel (b % 2) a) (sel (c % 2) a) (carryless m t (b / 2)) (carryless m t (c / 2))

xor-carryless : (m a b c : ℕ) → carryless m (bit_xor a b) c ≡ bit_xor (carryless m a c) (carryless m b c)
unfolding carryless
xor-carryless zero a b c = refl
xor-carryless (suc m) a b c =
    ap (λ k. bit_xor k (carryless m (bit_xor a b * 2) (c / 2))) (sel_of_xor (c % 2) a b)
    ∙ ap (bit_xor (bit_xor (sel (c % 2) a) (sel (c % 2) b))) (ap (λ k. carryless m k (c / 2)) (double-xor a b) ∙ xor-carryless m (a * 2) (b * 2) (c / 2))
    ∙ swapped (sel (c % 2) a) (sel (c % 2) b) (carryless m (a * 2) (c / 2)) (carryless m (b * 2) (c / 2))

remainder-xor : (n modulus j a b : ℕ) → remainder n modulus j (bit_xor a b) ≡ bit_xor (remainder n modulus j a) (remainder n modulus j b)
unfolding remainder
remainder-xor n modulus zero a b = refl
remainder-xor n modulus (suc j) a b =
    let k = n + j in
    let v = modulus * 2 ^ j in
    let bit : bit_xor a b / 2 ^ k % 2 ≡ bit_xor (a / 2 ^ k % 2) (b / 2 ^ k % 2) = ap (λ m. m % 2) (xor_shr a b k) ∙ xor_mod (a / 2 ^ k) (b / 2 ^ k) 1 in
    let taken : sel (bit_xor a b / 2 ^ k % 2) v ≡ bit_xor (sel (a / 2 ^ k % 2) v) (sel (b / 2 ^ k % 2) v) =
    ap (λ m. sel m v) bit ∙ sel-xor (a / 2 ^ k % 2) (b / 2 ^ k % 2) v (mod_two _) (mod_two _) in
    ap (remainder n modulus j) (ap (bit_xor (bit_xor a b)) taken ∙ swapped a b (sel (a / 2 ^ k % 2) v) (sel (b / 2 ^ k % 2) v))
    ∙ remainder-xor n modulus j (bit_xor a (sel (a / 2 ^ k % 2) v)) (bit_xor b (sel (b / 2 ^ k % 2) v))

module _ (n modulus : ℕ) where
  pub product-xor : (a b c : ℕ) → product n modulus a (bit_xor b c) ≡ bit_xor (product n modulus a b) (product n modulus a c)
  unfolding product
  product-xor a b c = ap (remainder n modulus n) (carryless-xor n a b c) ∙ remainder-xor n modulus n (carryless n a b) (carryless n a c)

  pub xor-product : (a b c : ℕ) → product n modulus (bit_xor a b) c ≡ bit_xor (product n modulus a c) (product n modulus b c)
  unfolding product
  xor-product a b c = ap (remainder n modulus n) (xor-carryless n a b c) ∙ remainder-xor n modulus n (carryless n a c) (carryless n b c)

  pub product-zero : (a : ℕ) → product n modulus a 0 ≡ 0
  product-zero a = product-xor a 0 0 ∙ xor_self (product n modulus a 0)

  pub zero-product : (a : ℕ) → product n modulus 0 a ≡ 0
  zero-product a = xor-product 0 0 a ∙ xor_self (product n modulus 0 a)

-- What the tables hold, by tests that antt computes over all their entries, and what powers of 2 give. Assumes nothing.
use Rattle.std.proofs.Common.{◌≡◌, ℕ, zero, suc, ◌+◌, ◌-◌, ◌<◌, ◌≤◌, Bool, true, T, eqb, ltb, List, [], ◌∷◌, length, get_or, drop, sym, refl, ap, ◌∙◌, add-zero, add-suc, suc-add, zero-add, arith, lit<, eqb→eq, ltb→lt}
use Rattle.algebra.specs.Fields.{inverse}
use Rattle.binary.specs.Binary.{carryless, remainder, product}
use Rattle.algebra.proofs.Tests.{both, both_left, both_right}
use Rattle.binary.proofs.Bilinear.{Basis, product_lt, product-comm, product-assoc, product_one}
use Rattle.binary.proofs.Field.{basis, only_inverse}
use Rattle.binary.proofs.Linear.{product-zero, zero-product}
use Rattle.gf256.specs.Powers.{power}
use Rattle.gf256.specs.declared.tables.TheConstants.{POWERS, EXPONENTS}
use Rattle.gf256.specs.Laws256.{undoing, passed}

abbrev m : ℕ → ℕ → ℕ
m = product 8 0x11d

abbrev tested : Basis 8 0x11d
tested = basis 8 0x11d undoing (lit< tt) passed

pub power-lt : (i : ℕ) → power i < 256
unfolding power
power-lt zero = lit< tt
power-lt (suc i) = product_lt 8 0x11d tested (power i) 2 (power-lt i) (lit< tt)

pub power-add : (i j : ℕ) → m (power i) (power j) ≡ power (i + j)
unfolding power
power-add zero j =
    product-comm 8 0x11d tested 1 (power j) (lit< tt) (power-lt j) ∙ product_one 8 0x11d tested (power j) (power-lt j) ∙ ap power (sym (zero-add j))
power-add (suc i) j =
    let a = power i in
    let b = power j in
    product-assoc 8 0x11d tested a 2 b (power-lt i) (lit< tt) (power-lt j) ∙ ap (m a) (product-comm 8 0x11d tested 2 b (lit< tt) (power-lt j))
    ∙ sym (product-assoc 8 0x11d tested a b 2 (power-lt i) (power-lt j) (lit< tt)) ∙ ap (λ x. m x 2) (power-add i j) ∙ ap power (sym (suc-add i j))

power-round : power 255 ≡ 1
unfolding power carryless remainder product
power-round = refl

-- a power and the one that completes it to the exponent 255 are inverse to each other
pub power-inverse : (a i : ℕ) → a < 256 → i ≤ 255 → power i ≡ a → power (255 - i) ≡ inverse 256 m a
power-inverse a i h le e =
    let whole : i + (255 - i) ≡ 255 = omega arith in
    sym (only_inverse 8 0x11d undoing (lit< tt) passed a (power (255 - i)) h (power-lt (255 - i))
    (ap (λ x. m x (power (255 - i))) (sym e) ∙ power-add i (255 - i) ∙ ap power whole ∙ power-round))

-- each entry of a list is twice the one before
abbrev doubling : ℕ → List ℕ → Bool
doubling x [] = true
doubling x (y ∷ ys) = both (eqb y (m x 2)) (doubling y ys)

doubling_at : (x : ℕ) (xs : List ℕ) (i : ℕ) → T (doubling x xs) → x ≡ power i → (k : ℕ) → k < length (x ∷ xs) → get_or (x ∷ xs) k 0 ≡ power (i + k)
unfolding power
doubling_at x xs i t e zero h = e ∙ ap power (sym (add-zero i))
doubling_at x [] i t e (suc k) h = absurd (omega arith)
doubling_at x (y ∷ ys) i t e (suc k) h =
    doubling_at y ys (suc i) (both_right (eqb y (m x 2)) (doubling y ys) t)
    (eqb→eq y (m x 2) (both_left (eqb y (m x 2)) (doubling y ys) t) ∙ ap (λ z. m z 2) e) k (omega arith)
    ∙ ap power (suc-add i k ∙ sym (add-suc i k))

pub powers_at : (k : ℕ) → k < 510 → get_or POWERS k 0 ≡ power k
unfolding power carryless remainder product
powers_at k h = doubling_at 1 (drop 1 POWERS) 0 tt refl k h ∙ ap power (zero-add k)

-- each entry is an exponent, and the power at it is the entry's place, counted from a
abbrev logarithms : ℕ → List ℕ → Bool
logarithms a [] = true
logarithms a (x ∷ xs) = both (both (ltb x 255) (eqb (get_or POWERS x 0) a)) (logarithms (suc a) xs)

logarithms_at : (xs : List ℕ) (a : ℕ) → T (logarithms a xs) → (k : ℕ) → k < length xs → (get_or xs k 0 < 255) × (power (get_or xs k 0) ≡ a + k)
logarithms_at [] a t k h = absurd (omega arith)
logarithms_at (x ∷ xs) a t zero h =
    let own = both_left (both (ltb x 255) (eqb (get_or POWERS x 0) a)) (logarithms (suc a) xs) t in
    let small : x < 255 = ltb→lt x 255 (both_left (ltb x 255) (eqb (get_or POWERS x 0) a) own) in
    (small, sym (powers_at x (omega arith)) ∙ eqb→eq (get_or POWERS x 0) a (both_right (ltb x 255) (eqb (get_or POWERS x 0) a) own) ∙ sym (add-zero a))
logarithms_at (x ∷ xs) a t (suc k) h =
    let r = logarithms_at xs (suc a) (both_right (both (ltb x 255) (eqb (get_or POWERS x 0) a)) (logarithms (suc a) xs) t) k (omega arith) in
    (r.0, r.1 ∙ omega arith)

-- the entry for 0, which has no exponent, is passed over
pub exponents_at : (a : ℕ) → 0 < a → a < 256 → (get_or EXPONENTS a 0 < 255) × (power (get_or EXPONENTS a 0) ≡ a)
exponents_at zero pos h = absurd (omega arith)
exponents_at (suc k) pos h = let r = logarithms_at (drop 1 EXPONENTS) 1 tt k (omega arith) in (r.0, r.1 ∙ omega arith)

pub product-power : (a b i j : ℕ) → power i ≡ a → power j ≡ b → power (i + j) ≡ m a b
product-power a b i j ea eb = sym (power-add i j) ∙ ap (λ x. m x (power j)) ea ∙ ap (m a) eb

pub none_product : (a b : ℕ) → a ≡ 0 → 0 ≡ m a b
none_product a b e = sym (ap (λ x. m x b) e ∙ zero-product 8 0x11d b)

pub product_none : (a b : ℕ) → b ≡ 0 → 0 ≡ m a b
product_none a b e = sym (ap (m a) e ∙ product-zero 8 0x11d a)

-- 65,537 is prime, and so each number below it but 0 has an inverse: proofs, nobody has to believe them. Assumes nothing.
use Rattle.std.specs.Prelude.{◌≡◌, ℕ, zero, suc, ◌+◌, ◌-◌, ◌*◌, ◌/◌, ◌%◌, ◌<◌, ◌≤◌, Bool, T, nat_lt}
use Rattle.std.proofs.Common.{⊎_elim, sym, ap, ◌∙◌, mod-lt, mod-eq_of_lt, add-mul, mul_assoc, mul_comm, mul-one, mul-zero, mul-le-mul_right, arith, lit<, ltb→lt}
use Rattle.std.proofs.Math.Nat.{mod-add-div, add-mul-mod_self_left, mul-sub, mul-mod_right}
use Rattle.std.proofs.lemmas.Bool.{cases_lt}
use Rattle.algebra.proofs.Tests.{below, below_at}
use Rattle.gf65537.specs.Gf65537.{times}

abbrev pub p : ℕ
p = 65537

pub p-pos : 0 < p
p-pos = lit< tt

-- a product of a remainder is that of the whole, after the remainder is taken again
pub mod-mul_left : (a b : ℕ) → (a % p * b) % p ≡ (a * b) % p
mod-mul_left a b =
    sym (ap (λ n. n * b % p) (sym (mod-add-div a p)) ∙ ap (λ n. n % p) (add-mul (a % p) (p * (a / p)) b ∙ ap (λ n. a % p * b + n) (mul_assoc p (a / p) b))
    ∙ add-mul-mod_self_left (a % p * b) p (a / p * b))

pub mod-mul_right : (a b : ℕ) → (a * (b % p)) % p ≡ (a * b) % p
mod-mul_right a b = ap (λ n. n % p) (mul_comm a (b % p)) ∙ mod-mul_left b a ∙ ap (λ n. n % p) (mul_comm b a)

-- trial division by the numbers 2 to 256
leaves_rest : ℕ → Bool
leaves_rest d = nat_lt 0 (p % (suc (suc d)))

trials : T (below 255 leaves_rest)
unfolding leaves_rest
trials = tt

small_trial : (d : ℕ) → 2 ≤ d → d ≤ 256 → 0 < p % d
unfolding leaves_rest
small_trial zero low high = absurd (omega arith)
small_trial (suc zero) low high = absurd (omega arith)
small_trial (suc (suc d)) low high = ltb→lt 0 (p % suc (suc d)) (below_at 255 leaves_rest trials d (omega arith))

-- of two factors one would be at most 256
no_factors : (d e : ℕ) → d * e ≡ p → 257 ≤ d → d < p → ⊥
no_factors d zero h low high = omega (arith, sym (mul-zero d) ∙ h)
no_factors d (suc zero) h low high = omega (arith, sym (mul-one d) ∙ h)
no_factors d (suc (suc e)) h low high =
    let few : suc (suc e) ≤ 256 = omega (arith, mul-le-mul_right (suc (suc e)) low) in
    let none : p % suc (suc e) ≡ 0 = ap (λ n. n % suc (suc e)) (sym h ∙ mul_comm d (suc (suc e))) ∙ mul-mod_right (suc (suc e)) d in
    omega (arith, small_trial (suc (suc e)) (omega arith) few)

-- no number from 2 on divides it
pub prime : (d : ℕ) → 2 ≤ d → d < p → 0 < p % d
prime d low high = ⊎_elim (λ few. small_trial d low (omega arith)) (λ many. rest (p % d) (mod-add-div p d) many) (cases_lt d 257)
  where
    rest : (r : ℕ) → r + d * (p / d) ≡ p → 257 ≤ d → 0 < r
    rest zero e many = absurd (no_factors d (p / d) (omega arith) many high)
    rest (suc r) e many = omega arith

-- with p = q x + r, the product of x and p - q leaves r
turned : (x : ℕ) → 2 ≤ x → x < p → x * (p - p / x) % p ≡ p % x
turned x low high =
    let q = p / x in
    let r = p % x in
    let parts : r + x * q ≡ p = mod-add-div p x in
    let less : r < x = mod-lt p (omega arith) in
    let spread : x * (p - q) ≡ r + p * (x - 1) = mul-sub x p q ∙ omega arith in
    ap (λ n. n % p) spread ∙ add-mul-mod_self_left r p (x - 1) ∙ mod-eq_of_lt (omega arith)

-- one step towards the inverse of a: from a c = x to the next
pub step : (a c x : ℕ) → times a c ≡ x → 2 ≤ x → x < p → times a (times (p - p / x) c) ≡ p % x
step a c x e low high =
    let t = p - p / x in
    mod-mul_right a (t * c) ∙ ap (λ n. n % p) (sym (mul_assoc a t c) ∙ ap (λ n. n * c) (mul_comm a t) ∙ mul_assoc t a c)
    ∙ sym (mod-mul_right t (a * c)) ∙ ap (λ n. t * n % p) e ∙ ap (λ n. n % p) (mul_comm t x) ∙ turned x low high

exists_from : (turns a c x : ℕ) → times a c ≡ x → 0 < x → x < p → x ≤ turns → (b : ℕ) × (b < p) × (times a b ≡ 1)
exists_from zero a c x e pos high few = absurd (omega arith)
exists_from (suc turns) a c zero e pos high few = absurd (omega arith)
exists_from (suc turns) a c (suc zero) e pos high few = (c % p, mod-lt c p-pos, mod-mul_right a c ∙ e)
exists_from (suc turns) a c (suc (suc y)) e pos high few =
    let x = suc (suc y) in
    let less : p % x < x = mod-lt p (omega arith) in
    exists_from turns a (times (p - p / x) c) (p % x) (step a c x e (omega arith) high) (prime x (omega arith) high) (omega arith) (omega arith)

pub exists : (a : ℕ) → 0 < a → a < p → (b : ℕ) × (b < p) × (times a b ≡ 1)
exists a pos high = exists_from a a 1 a (ap (λ n. n % p) (mul-one a) ∙ mod-eq_of_lt high) pos high (omega arith)

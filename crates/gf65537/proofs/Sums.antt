-- Sums of weighted slices that are reduced once. Assumes nothing.
use Rattle.std.proofs.Common.{◌≡◌, ℕ, ◌+◌, ◌-◌, ◌*◌, ◌%◌, ◌<◌, ◌≤◌, cond, List, length, get_or, sym, ap, ◌∙◌, add-zero, mul-le-mul_right, mod-lt, arith, lit<, lt-ltb}
use native.Mathlib.Nat.{mod-add-mod, add-mod-mod}
use Rattle.std.proofs.lemmas.List.{length-take}
use Rattle.base.specs.Bytes.{part}
use Rattle.base.proofs.Places.{part_at, part_past, le_value_four}
use Rattle.algebra.specs.Fields.{code}
use Rattle.algebra.specs.Slices.{stored_at}
use Rattle.gf65537.specs.Gf65537.{gf65537}
use Rattle.gf65537.specs.Prime.{p, p-pos}

-- a stored number by its bytes
pub stored_three : (bs : List ℕ) (place : ℕ) → stored_at 3 bs place ≡ get_or bs place 0 + get_or bs (place + 1) 0 * 256 + get_or bs (place + 2) 0 * 65536
stored_three bs place =
    let few : length (part bs place 3) ≤ 4 = rw length-take (omega arith) in
    le_value_four (part bs place 3) few
    ∙ omega (arith, part_at bs place 3 0 (lit< tt) ∙ ap (λ k. get_or bs k 0) (add-zero place), part_at bs place 3 1 (lit< tt), part_at bs place 3 2 (lit< tt), part_past bs place 3 3 (omega arith))

code-mod : (n : ℕ) → code p (n % p) ≡ n % p
code-mod n = ap (λ t. cond t (n % p) 0) (lt-ltb (n % p) p (mod-lt n p-pos))

-- one more product in a sum that is not reduced yet
pub sum_more : (sum a b : ℕ) → (sum + code p a * code p b) % p ≡ gf65537.add (sum % p) (gf65537.mul a b)
sum_more sum a b =
    let m = code p a * code p b in
    sym (ap (λ x. (x + code p (m % p)) % p) (code-mod sum) ∙ ap (λ x. (sum % p + x) % p) (code-mod m) ∙ mod-add-mod sum p (m % p) ∙ add-mod-mod sum m p)

-- no slice begins after the last
pub slice_within : (i n stride place whole : ℕ) → i < n → (n - 1) * stride + place + 3 ≤ whole → i * stride + place + 3 ≤ whole
slice_within i n stride place whole l h =
    let le : i ≤ n - 1 = omega arith in
    omega (arith, mul-le-mul_right stride le)

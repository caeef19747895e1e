-- The lengths that packages have. Assumes nothing.
use Rattle.std.proofs.Common.{◌≡◌, ℕ, ◌%◌, ◌≤◌, false, not, ◌||◌, eqb, ltb, ltb-false, le-ltb, eq-eqb, eqb-true}
use Rattle.std.proofs.lemmas.Bool.{not-false, not_from_true, or_parts, or_from}
use Rattle.base.specs.Sizes.{misfit}

-- a package's length is that of whole blocks
pub fits : (n : ℕ) → misfit n ≡ false → (n % 16 ≡ 0) × (48 ≤ n) × (n ≤ 4128)
fits n h =
    let p = or_parts (not (eqb (n % 16) 0) || ltb n 48) (ltb 4128 n) h in
    let q = or_parts (not (eqb (n % 16) 0)) (ltb n 48) p.0 in
    (eqb-true (n % 16) 0 (not-false (eqb (n % 16) 0) q.0), ltb-false n 48 q.1, ltb-false 4128 n p.1)

pub fits_so : (n : ℕ) → n % 16 ≡ 0 → 48 ≤ n → n ≤ 4128 → misfit n ≡ false
fits_so n a b c =
    or_from (not (eqb (n % 16) 0) || ltb n 48) (ltb 4128 n)
    (or_from (not (eqb (n % 16) 0)) (ltb n 48) (not_from_true (eqb (n % 16) 0) (eq-eqb (n % 16) 0 a)) (le-ltb n 48 b)) (le-ltb 4128 n c)

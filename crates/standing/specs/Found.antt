-- The list of those that were found gives the array and its count back, which a type that is copied is asked for: proofs, nobody has to
-- believe them. Assumes nothing.
use Rattle.std.specs.Prelude.{◌≡◌, ℕ, ◌-◌, ◌≤◌, List, ◌++◌, length, take, drop, replicate}
use Rattle.std.proofs.Common.{sym, ap, ◌∙◌, arith, take-append-drop, length-take-le}

pub length_back : (n : ℕ) (xs : List ℕ) → n ≤ 16 → length xs ≡ 16 → length (take n xs) ≡ n
length_back n xs few long = length-take-le n xs (omega (arith, few, long))

pub places_back : (n : ℕ) (xs : List ℕ) → n ≤ 16 → length xs ≡ 16 → drop n xs ≡ replicate (16 - n) 0 → take n xs ++ replicate (16 - length (take n xs)) 0 ≡ xs
places_back n xs few long zeros =
    ap (λ m. take n xs ++ replicate (16 - m) 0) (length_back n xs few long) ∙ ap (λ ys. take n xs ++ ys) (sym zeros) ∙ take-append-drop n xs

-- Words of eight bytes. Assumes nothing.
use Rattle.std.proofs.Common.{◌≡◌, ℕ, ◌/◌, ◌%◌, List, [], ◌∷◌, ◌++◌, length, get_or, sym, refl, ap, ◌∙◌, arith}
use native.Mathlib.Nat.{div-div-eq-div-mul}
use Rattle.std.specs.Int.{w64, from_le_bytes}
use Rattle.std.proofs.lemmas.List.FromFn.{fill_by_all}
use Rattle.base.specs.Bytes.{le_bytes, le_value}

pub value_of_eight : (bs : List ℕ) → length bs ≡ 8 → from_le_bytes w64 bs ≡ le_value bs
value_of_eight bs h = sym (ap le_value (fill_by_all (λ k. get_or bs k 0) bs 8 0 h (λ k l. refl)) ∙ omega arith)

pub eight_of : (n : ℕ) → le_bytes 8 n
    ≡ n % 256 ∷ n / 256 % 256 ∷ n / 65536 % 256 ∷ n / 16777216 % 256 ∷ n / 4294967296 % 256 ∷ n / 1099511627776 % 256
    ∷ n / 281474976710656 % 256 ∷ n / 72057594037927936 % 256 ∷ []
eight_of n = simp div-div-eq-div-mul

pub two_of_eight : (a b : List ℕ) (m n : ℕ) → a ≡ le_bytes 8 m → b ≡ le_bytes 8 n →
    get_or a 0 0 ∷ get_or a 1 0 ∷ get_or a 2 0 ∷ get_or a 3 0 ∷ get_or a 4 0 ∷ get_or a 5 0 ∷ get_or a 6 0 ∷ get_or a 7 0
    ∷ get_or b 0 0 ∷ get_or b 1 0 ∷ get_or b 2 0 ∷ get_or b 3 0 ∷ get_or b 4 0 ∷ get_or b 5 0 ∷ get_or b 6 0 ∷ get_or b 7 0 ∷ []
    ≡ le_bytes 8 m ++ le_bytes 8 n
two_of_eight a b m n p q = simp (p, q)

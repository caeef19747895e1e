-- Figures that the definitions give, worked out apart from them. Assumes nothing.
use Rattle.std.specs.Prelude.{List, [], ◌∷◌, ◌≡◌, ℕ, length}
use Rattle.algebra.specs.Fields.{Ops}
use Rattle.algebra.specs.Polynomials.{at, ValueAt}
use Rattle.aont.specs.Package.{sealed}
use Rattle.gf256.specs.Gf256.{gf256}
use Rattle.gf65537.specs.Gf65537.{gf65537}

-- cabinet c's symbol for a column: the value at c of the polynomial that has the column's symbols at 0, 1, 2 ..
abbrev pub Symbol : Ops → List ℕ → ℕ → ℕ → Type 0
Symbol f column c y = ValueAt f (length column) (λ i. i) (at column) c y

-- every file of so many bytes, under every key and every cipher, has a package of so many
abbrev pub Packs : ℕ → ℕ → Type 0
Packs bytes size = (E : List ℕ → List ℕ → List ℕ) (number : ℕ) (key file : List ℕ) → length key ≡ 16 → length file ≡ bytes → length (sealed E number key file) ≡ size

pub record Marked : Type 0 where
  pub product_256 : gf256.mul 2 128 ≡ 29
  pub inverse_256 : gf256.inv 2 ≡ 142
  pub product_65537 : gf65537.mul 65536 65536 ≡ 1
  pub inverse_65537 : gf65537.inv 2 ≡ 32769
  pub two_256 : Symbol gf256 (128 ∷ 0 ∷ []) 2 157
  pub two_65537 : Symbol gf65537 (1 ∷ 0 ∷ []) 2 65536
  pub three_256 : Symbol gf256 (1 ∷ 2 ∷ 3 ∷ []) 3 0
  pub three_65537 : Symbol gf65537 (1 ∷ 2 ∷ 3 ∷ []) 3 4
  pub package_0 : Packs 0 48
  pub package_12 : Packs 12 48
  pub package_13 : Packs 13 64

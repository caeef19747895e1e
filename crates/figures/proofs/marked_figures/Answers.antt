use mathlib.Core.List.{[], ◌∷◌}
use mathlib.Core.Path.{refl, ap, ◌∙◌}
use Prim.Native.Nat.{ℕ}
use lib.Dec.{lit<}
use Rattle.algebra.specs.Fields.{first_from, inverse}
use Rattle.aont.specs.Package.{package_length}
use Rattle.aont.proofs.Sealed.{length-sealed}
use Rattle.binary.specs.Binary.{carryless, remainder, product}
use Rattle.gf256.specs.Gf256.{gf256}
use Rattle.gf65537.specs.Gf65537.{gf65537}
use Rattle.gf256.specs.Laws256.{gf256_laws}
use Rattle.gf65537.specs.Laws65537.{gf65537_laws, only_inverse}
use Rattle.figures.specs.Marked.{Packs}
use Rattle.figures.proofs.Columns.{symbol_is}
use Rattle.figures.proofs.marked_figures.Goals as goal

packs : (bytes : ℕ) → Packs bytes (package_length bytes)
packs bytes E number key file wide e = length-sealed E number key file wide ∙ ap package_length e

pub returns : goal.returns
unfolding first_from inverse carryless remainder product
returns c = record {
  product_256 = refl;
  inverse_256 = refl;
  product_65537 = refl;
  inverse_65537 = only_inverse 2 32769 (lit< tt) refl;
  two_256 = symbol_is gf256 gf256_laws (128 ∷ 0 ∷ []) (128 ∷ 128 ∷ []) 2 157 tt;
  two_65537 = symbol_is gf65537 gf65537_laws (1 ∷ 0 ∷ []) (1 ∷ 65536 ∷ []) 2 65536 tt;
  three_256 = symbol_is gf256 gf256_laws (1 ∷ 2 ∷ 3 ∷ []) (1 ∷ 246 ∷ 245 ∷ []) 3 0 tt;
  three_65537 = symbol_is gf65537 gf65537_laws (1 ∷ 2 ∷ 3 ∷ []) (1 ∷ 1 ∷ 0 ∷ []) 3 4 tt;
  package_0 = packs 0;
  package_12 = packs 12;
  package_13 = packs 13;
}

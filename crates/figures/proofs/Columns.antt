-- A symbol of a column, shown by the coefficients of the polynomial and one computed test. Assumes nothing.
use mathlib.Core.Bool.{Bool, true}
use mathlib.Core.List.{List, [], ◌∷◌}
use Prim.Native.Nat.{ℕ, zero, suc, ◌<◌}
use lib.Dec.{T, eqb, ltb, eqb→eq, ltb→lt}
use lib.ListN.{length}
use Rattle.algebra.specs.Fields.{Ops, Laws}
use Rattle.algebra.specs.Polynomials.{eval, at}
use Rattle.algebra.proofs.Ring.{zero-code}
use Rattle.algebra.proofs.Tests.{both, both_left, both_right, below, below_at}
use Rattle.figures.specs.Marked.{Symbol}

abbrev small : Ops → List ℕ → Bool
small f [] = true
small f (a ∷ cs) = both (ltb a f.size) (small f cs)

small_at : (f : Ops) → Laws f → (cs : List ℕ) → T (small f cs) → (i : ℕ) → at cs i < f.size
small_at f L [] t i = zero-code f L
small_at f L (a ∷ cs) t zero = ltb→lt a f.size (both_left (ltb a f.size) (small f cs) t)
small_at f L (a ∷ cs) t (suc i) = small_at f L cs (both_right (ltb a f.size) (small f cs) t) i

-- cs is a polynomial of the column's degree through it, and y its value at c
abbrev pub fits : Ops → List ℕ → List ℕ → ℕ → ℕ → Bool
fits f column cs c y =
    both (eqb (length cs) (length column)) (both (small f cs) (both (below (length column) (λ i. eqb (eval f cs i) (at column i))) (eqb (eval f cs c) y)))

pub symbol_is : (f : Ops) → Laws f → (column cs : List ℕ) (c y : ℕ) → T (fits f column cs c y) → Symbol f column c y
symbol_is f L column cs c y t =
    let long = eqb (length cs) (length column) in
    let codes = small f cs in
    let passes = below (length column) (λ i. eqb (eval f cs i) (at column i)) in
    let value = eqb (eval f cs c) y in
    let rest = both_right long (both codes (both passes value)) t in
    let last = both_right codes (both passes value) rest in
    record {
      polynomial = cs;
      through = record {
        degree = eqb→eq (length cs) (length column) (both_left long (both codes (both passes value)) t);
        codes = small_at f L cs (both_left codes (both passes value) rest);
        passes = λ i h. eqb→eq (eval f cs i) (at column i) (below_at (length column) (λ i. eqb (eval f cs i) (at column i)) (both_left passes value last) i h);
      };
      value = eqb→eq (eval f cs c) y (both_right passes value last);
    }

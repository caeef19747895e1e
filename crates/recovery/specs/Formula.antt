-- What join and rebuild compute: symbols by Lagrange's formula. Nobody has to believe it, since their contracts also say, in a
-- polynomial's words, what it gives. Assumes nothing.
use Rattle.std.specs.Prelude.{ℕ, ◌/◌, ◌%◌, List}
use Rattle.std.specs.List.{range_with_len, flat_map}
use Rattle.base.specs.Bytes.{le_bytes}
use Rattle.algebra.specs.Lagrange.{lagrange}
use Rattle.algebra.specs.Polynomials.{at}
use Rattle.algebra.specs.Slices.{combined}
use Rattle.erasure.specs.Records.{Coding, issue_in, record_with, given_symbol}
use Rattle.erasure.specs.Formula.{point_weights}

-- what is worked out for column j and code x from records end to end
unfoldable pub worked_out : Coding → ℕ → List ℕ → List ℕ → ℕ → ℕ → ℕ
worked_out C bytes positions records j x = lagrange C.ops C.needed (at positions) (λ i. given_symbol C bytes records i j) x

-- slice i of the package that is worked out: the symbol i of each of the first m columns, stored; and all slices
abbrev pub worked_slice : Coding → List ℕ → List ℕ → ℕ → ℕ → ℕ → List ℕ
worked_slice C positions slices stride m i = combined C.ops C.stored (point_weights C (at positions) i) slices stride m

unfoldable pub recovered : Coding → List ℕ → List ℕ → ℕ → ℕ → List ℕ
recovered C positions slices stride m = flat_map (worked_slice C positions slices stride m) (range_with_len 0 C.needed)

-- the package and the record that come of it
unfoldable pub package_from : Coding → ℕ → List ℕ → List ℕ → List ℕ
package_from C bytes positions records =
    flat_map (λ t. le_bytes C.width (worked_out C bytes positions records (t / C.needed) (t % C.needed))) (range_with_len 0 (bytes / C.width))

unfoldable pub rebuilt : Coding → ℕ → List ℕ → List ℕ → ℕ → List ℕ
rebuilt C bytes positions records c = record_with C bytes (issue_in records) (λ j. worked_out C bytes positions records j c)

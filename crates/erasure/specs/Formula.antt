-- What the code computes: symbols by Lagrange's formula. Nobody has to believe it, since the contract of cutting also says, in a
-- polynomial's words, what it gives. Assumes nothing.
use Rattle.std.specs.Prelude.{ℕ, ◌*◌, List, ◌++◌, map, length}
use Rattle.std.specs.List.{range_with_len, flat_map}
use Rattle.base.specs.Bytes.{le_bytes}
use Rattle.algebra.specs.Lagrange.{weight, lagrange}
use Rattle.algebra.specs.Slices.{combined}
use Rattle.erasure.specs.Records.{Coding, columns, column, head, record_length, record_with}

-- slice i of a package: the symbol i of each of the first m columns, stored
abbrev pub slice_of : Coding → List ℕ → ℕ → ℕ → List ℕ
slice_of C pkg m i = flat_map (λ j. le_bytes C.stored (column C pkg j i)) (range_with_len 0 m)

-- all slices, one after the other
unfoldable pub spread : Coding → List ℕ → List ℕ
spread C pkg = flat_map (slice_of C pkg (columns C (length pkg))) (range_with_len 0 C.needed)

-- the symbol of cabinet c in column j
abbrev pub cabinet_symbol : Coding → List ℕ → ℕ → ℕ → ℕ
cabinet_symbol C pkg c j = lagrange C.ops C.needed (λ i. i) (column C pkg j) c

unfoldable pub record_of : Coding → List ℕ → ℕ → ℕ → List ℕ
record_of C pkg c issue = record_with C (length pkg) issue (cabinet_symbol C pkg c)

-- the weights of the column's own symbols in the symbol of cabinet c, and that cabinet's record from the slices
unfoldable pub weights_for : Coding → ℕ → List ℕ
weights_for C c = map (λ p. weight C.ops C.needed (λ i. i) p c) (range_with_len 0 C.needed)

unfoldable pub record_from : Coding → ℕ → List ℕ → ℕ → ℕ → List ℕ
record_from C bytes slices c issue =
    head (record_length C bytes) C.number issue
    ++ combined C.ops C.stored (weights_for C c) slices (columns C bytes * C.stored) (columns C bytes)

-- what each of the points weighs in the value at x
unfoldable pub point_weights : Coding → (ℕ → ℕ) → ℕ → List ℕ
point_weights C points x = map (λ i. weight C.ops C.needed points (points i) x) (range_with_len 0 C.needed)

-- the record of cabinet c from slices of the symbols at the points, where slice i begins at i × stride
unfoldable pub combined_record : Coding → ℕ → (ℕ → ℕ) → List ℕ → ℕ → ℕ → ℕ → List ℕ
combined_record C bytes points slices stride c issue =
    head (record_length C bytes) C.number issue ++ combined C.ops C.stored (point_weights C points c) slices stride (columns C bytes)

-- Slices of codes, each stored in v bytes, little-endian. Assumes nothing.
use Rattle.std.specs.Prelude.{ℕ, ◌+◌, ◌*◌, List, length}
use Rattle.std.specs.List.{range_with_len, flat_map}
use Rattle.base.specs.Bytes.{le_bytes, le_value, part}
use Rattle.algebra.specs.Fields.{Ops}
use Rattle.algebra.specs.Polynomials.{at, weighed}

-- the number stored at a place
abbrev pub stored_at : ℕ → List ℕ → ℕ → ℕ
stored_at v bs place = le_value (part bs place v)

-- the sum at one place of as many slices as there are weights, each times its weight; slice i begins at i × stride
unfoldable pub combined_at : Ops → ℕ → List ℕ → List ℕ → ℕ → ℕ → ℕ
combined_at f v ws bs stride place = weighed f (length ws) (λ i. stored_at v bs (i * stride + place)) (at ws)

-- the same at the first n places, stored
unfoldable pub combined : Ops → ℕ → List ℕ → List ℕ → ℕ → ℕ → List ℕ
combined f v ws bs stride n = flat_map (λ j. le_bytes v (combined_at f v ws bs stride (j * v))) (range_with_len 0 n)

-- What the steps over whole slices leave. Nobody has to believe it, since no public contract cites it. Assumes nothing.
use Rattle.std.specs.Prelude.{ℕ, zero, suc, ◌+◌, ◌*◌, ◌/◌, ◌%◌, ◌^◌, List, map, length, bit_xor, slice_index}
use Rattle.std.specs.List.{range_with_len}
use Rattle.algebra.specs.Fields.{code}
use Rattle.binary.specs.Binary.{sel, product}

-- each code doubled
unfoldable pub doubled : List ℕ → List ℕ
doubled xs = map (λ j. product 8 0x11d (slice_index xs j) 2) (range_with_len 0 (length xs))

-- a slice added, from a place of the sources on; past their end nothing is added
unfoldable pub added : List ℕ → List ℕ → ℕ → List ℕ
added xs bs begin = map (λ j. bit_xor (slice_index xs j) (slice_index bs (begin + j))) (range_with_len 0 (length xs))

-- a bit of a weight
abbrev pub bit_of : ℕ → ℕ → ℕ
bit_of w bit = code 256 w / 2 ^ bit % 2

-- what the first i slices add at place j, each where its weight's bit is 1
unfoldable pub bit_sum : ℕ → List ℕ → List ℕ → ℕ → ℕ → ℕ → ℕ
bit_sum bit ws bs stride zero j = 0
bit_sum bit ws bs stride (suc i) j = bit_xor (bit_sum bit ws bs stride i j) (sel (bit_of (slice_index ws i) bit) (slice_index bs (i * stride + j)))

unfoldable pub bits_added : ℕ → List ℕ → List ℕ → List ℕ → ℕ → ℕ → List ℕ
bits_added bit xs ws bs stride i = map (λ j. bit_xor (slice_index xs j) (bit_sum bit ws bs stride i j)) (range_with_len 0 (length xs))

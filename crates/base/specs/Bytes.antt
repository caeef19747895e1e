-- Bytes, little-endian numbers and buffers: the words of every format. Assumes nothing.
use Rattle.std.specs.Prelude.{ℕ, zero, suc, ◌+◌, ◌*◌, ◌/◌, ◌%◌, ◌<◌, List, [], ◌∷◌, ◌++◌, length, take, drop, slice_index}

-- each element is a byte
abbrev pub Bytes : List ℕ → Type 0
Bytes xs = (i : ℕ) → slice_index xs i < 256

-- a number in so many bytes, the lowest first; what does not fit is cut off
abbrev pub le_bytes : ℕ → ℕ → List ℕ
le_bytes zero n = []
le_bytes (suc width) n = n % 256 ∷ le_bytes width (n / 256)

-- the number that bytes make, the lowest first
abbrev pub le_value : List ℕ → ℕ
le_value [] = 0
le_value (b ∷ bs) = b + 256 * le_value bs

-- the part of so many bytes that begins at a place
abbrev pub part : List ℕ → ℕ → ℕ → List ℕ
part bs at len = take len (drop at bs)

-- a buffer that is overwritten from a place on
abbrev pub written : List ℕ → ℕ → List ℕ → List ℕ
written buffer at bs = take at buffer ++ (bs ++ drop (at + length bs) buffer)

-- a buffer whose front is overwritten
abbrev pub over : List ℕ → List ℕ → List ℕ
over bs buffer = bs ++ drop (length bs) buffer

-- A state as the code holds it: four words, one for each column, with row 0 in the lowest byte. Assumes nothing.
use Rattle.std.specs.Prelude.{◌≡◌, ℕ, ◌+◌, ◌*◌, ◌%◌, List, map, slice_index}
use Rattle.std.specs.List.{range_with_len}
use Rattle.base.specs.Bytes.{le_bytes}
use Rattle.aes128.specs.declared.columns.Columns.{Columns}
use Rattle.aes128.specs.Aes.{state, round_key}

-- the word of four bytes
abbrev pub word : ℕ → ℕ → ℕ → ℕ → ℕ
word p q u v = p + q * 256 + u * 65536 + v * 16777216

-- the word of the four bytes from a place on
abbrev pub word_at : List ℕ → ℕ → ℕ
word_at bs at = word (slice_index bs at) (slice_index bs (at + 1)) (slice_index bs (at + 2)) (slice_index bs (at + 3))

-- the byte of a word in a row
abbrev pub byte_in : ℕ → ℕ → ℕ
byte_in word r = slice_index (le_bytes 4 word) r

-- the state's sixteen bytes
unfoldable pub state_of : Columns → List ℕ
state_of w = state (λ r c. byte_in (slice_index w.0 c) r)

-- the bytes, row by row, that ShiftRows puts into a column of these words
abbrev pub shifted : List ℕ → ℕ → ℕ → ℕ
shifted words c r = byte_in (slice_index words ((c + r) % 4)) r

-- words that are the eleven round keys of a key
abbrev pub RoundKeys : List ℕ → List Columns → Type 0
RoundKeys key ks = map state_of ks ≡ map (round_key key) (range_with_len 0 11)

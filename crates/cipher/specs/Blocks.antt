-- Blocks of sixteen bytes, and what a block cipher is. Assumes nothing.
use Rattle.std.specs.Prelude.{◌≡◌, ℕ, ◌<◌, List, map, length, bit_xor, slice_index}
use Rattle.std.specs.List.{range_with_len}
use Rattle.base.specs.Bytes.{Bytes}

-- sixteen bytes
abbrev pub Block : List ℕ → Type 0
Block b = (length b ≡ 16) × Bytes b

-- the block that has f k at each place k
abbrev pub sixteen : (ℕ → ℕ) → List ℕ
sixteen f = map f (range_with_len 0 16)

-- the exclusive or of two blocks
unfoldable pub xor : List ℕ → List ℕ → List ℕ
xor a b = sixteen (λ k. bit_xor (slice_index a k) (slice_index b k))

-- E takes a key and a block to a block, and the cipher's number fits two bytes
pub record CipherLaws (number : ℕ) (E : List ℕ → List ℕ → List ℕ) : Type 0 where
  pub small : number < 65536
  pub blocks : (key block : List ℕ) → Block key → Block block → Block (E key block)

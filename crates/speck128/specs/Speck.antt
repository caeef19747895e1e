-- Speck128/128: 32 rounds over the block's words x and y and the key's words k and l. Assumes nothing.
use Rattle.std.specs.Prelude.{ℕ, zero, suc, ◌+◌, ◌-◌, ◌*◌, ◌/◌, ◌%◌, ◌^◌, List, ◌++◌, bit_or, bit_xor}
use Rattle.base.specs.Bytes.{le_bytes, le_value, part}

-- four words of 64 bits
pub record Words : Type 0 where
  pub x : ℕ
  pub y : ℕ
  pub k : ℕ
  pub l : ℕ

-- a word rotated right and left by so many bits
abbrev pub ror : ℕ → ℕ → ℕ
ror w by = bit_or (w / 2 ^ by) ((w * 2 ^ (64 - by)) % 2 ^ 64)

abbrev pub rol : ℕ → ℕ → ℕ
rol w by = bit_or ((w * 2 ^ by) % 2 ^ 64) (w / 2 ^ (64 - by))

-- round i: first the block's words, with the round key k, and then the key's
abbrev pub round : ℕ → Words → Words
round i w =
    let x = bit_xor ((ror w.x 8 + w.y) % 2 ^ 64) w.k in
    let y = bit_xor (rol w.y 3) x in
    let l = bit_xor ((w.k + ror w.l 8) % 2 ^ 64) i in
    let k = bit_xor (rol w.k 3) l in
    record { x = x; y = y; k = k; l = l }

-- the words after so many rounds
unfoldable pub rounds : ℕ → Words → Words
rounds zero w = w
rounds (suc i) w = round i (rounds i w)

-- bytes 0 to 7 of the block are y and of the key k, bytes 8 to 15 are x and l, little-endian
abbrev pub start : List ℕ → List ℕ → Words
start key block =
    record {
      x = le_value (part block 8 8);
      y = le_value (part block 0 8);
      k = le_value (part key 0 8);
      l = le_value (part key 8 8);
    }

-- the block of the words y and x
unfoldable pub joined : ℕ → ℕ → List ℕ
joined y x = le_bytes 8 y ++ le_bytes 8 x

-- the cipher: y and x after 32 rounds
abbrev pub speck : List ℕ → List ℕ → List ℕ
speck key block = let w = rounds 32 (start key block) in joined w.y w.x

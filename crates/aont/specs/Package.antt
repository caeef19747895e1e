-- Rivest's package transform of a framed file, over a block cipher E : key → block → block. Assumes nothing.
use Rattle.std.specs.Prelude.{ℕ, ◌+◌, ◌-◌, ◌*◌, ◌/◌, ◌%◌, List, ◌++◌, length, take, drop, replicate, codes, fold}
use Rattle.std.specs.List.{range_with_len, flat_map}
use Rattle.base.specs.Bytes.{le_bytes, le_value, part}
use Rattle.cipher.specs.Blocks.{xor}

-- block i of a list, counted from 1
unfoldable pub block : ℕ → List ℕ → List ℕ
block i bs = part bs (16 * (i - 1)) 16

-- a block number is a number in sixteen bytes
unfoldable pub number_block : ℕ → List ℕ
number_block i = le_bytes 16 i

-- a file's frame: its length, the cipher's number, its bytes, and zeros up to a multiple of 16
unfoldable pub frame : ℕ → List ℕ → List ℕ
frame number file =
    let plain = le_bytes 2 (length file) ++ (le_bytes 2 number ++ file) in
    plain ++ replicate ((16 - length plain % 16) % 16) 0

abbrev pub canary : List ℕ
canary = codes "BAYMAP+SIGNTABLE"

-- what is sealed: the blocks m(1) to m(s)
abbrev pub message : ℕ → List ℕ → List ℕ
message number file = frame number file ++ canary

-- the length of the package of a file of n bytes
abbrev pub package_length : ℕ → ℕ
package_length n = 16 * ((n + 19) / 16) + 32

-- a package without its last block: the masked blocks
abbrev pub body : List ℕ → List ℕ
body pkg = take (length pkg - 16) pkg

module _ (E : List ℕ → List ℕ → List ℕ) where
  -- each block masked: m'(i) = m(i) ⊕ E(K, i)
  unfoldable pub masked : List ℕ → List ℕ → List ℕ
  masked key ms = flat_map (λ i. xor (block i ms) (E key (number_block i))) (range_with_len 1 (length ms / 16))

  -- K ⊕ h(1) ⊕ … ⊕ h(s), where h(i) = E(K0, m'(i) ⊕ i) and K0 is the bytes 0 to 15
  unfoldable pub bound : List ℕ → List ℕ → List ℕ
  bound key ms = fold (λ sum i. xor sum (E (range_with_len 0 16) (xor (block i ms) (number_block i)))) key (range_with_len 1 (length ms / 16))

  -- the package of a file under a key: m'(1) to m'(s), and the key bound to them
  unfoldable pub sealed : ℕ → List ℕ → List ℕ → List ℕ
  sealed number key file = let ms = masked key (message number file) in ms ++ bound key ms

  -- the key that a package's last block binds, and the blocks under its mask
  unfoldable pub key_in : List ℕ → List ℕ
  key_in pkg = bound (drop (length pkg - 16) pkg) (body pkg)

  unfoldable pub message_in : List ℕ → List ℕ
  message_in pkg = masked (key_in pkg) (body pkg)

  abbrev pub frame_in : List ℕ → List ℕ
  frame_in pkg = take (length pkg - 32) (message_in pkg)

  abbrev pub canary_in : List ℕ → List ℕ
  canary_in pkg = drop (length pkg - 32) (message_in pkg)

-- the file that a frame names by its first two bytes
abbrev pub file_in : List ℕ → List ℕ
file_in fr = part fr 4 (le_value (take 2 fr))

-- The round key after another, word by word. Assumes nothing.
use Rattle.std.proofs.Common.{◌≡◌, ℕ, zero, suc, ◌<◌, List, [], ◌∷◌, map, get_or, refl, ap, ◌∙◌, arith, lit<}
use lib.Bits.{bit_xor}
use Rattle.std.specs.Int.{w32, to_le_bytes}
use Rattle.std.specs.List.{range_with_len}
use Rattle.base.specs.Bytes.{le_bytes, le_value}
use Rattle.base.proofs.Little.{le_bytes-le_value}
use Rattle.aes128.specs.declared.columns.Columns.{Columns}
use Rattle.aes128.specs.Aes.{sbox, next_key}
use Rattle.aes128.specs.Columns.{state_of}
use Rattle.aes128.specs.Sizes.{sbox_byte}
use Rattle.aes128.proofs.Words.{Bytes-of_four, four_of, known, state_is, xors, xors_of}

-- what is added to each column: to column 0 a first word, and to another the new column before
abbrev pub before : ℕ → List ℕ → ℕ → ℕ
before first ws zero = first
before first ws (suc c) = bit_xor (get_or ws c 0) (before first ws c)

abbrev before_bytes : List ℕ → List ℕ → ℕ → List ℕ
before_bytes first ws zero = first
before_bytes first ws (suc c) = xors (le_bytes 4 (get_or ws c 0)) (before_bytes first ws c)

before_is : (word : ℕ) (first ws : List ℕ) → le_bytes 4 word ≡ first → (c : ℕ) → le_bytes 4 (before word ws c) ≡ before_bytes first ws c
before_is word first ws e zero = e
before_is word first ws e (suc c) = xors_of (get_or ws c 0) (before word ws c) _ _ refl (before_is word first ws e c)

-- the first word is made of the last column t, and of the round constant
pub key_words : (rc : ℕ) (s w : Columns) (t : List ℕ) (sub con : ℕ) → rc < 256 → t ≡ to_le_bytes w32 (get_or s.0 3 0)
    → sub ≡ le_value (map sbox (get_or t 1 0 ∷ get_or t 2 0 ∷ get_or t 3 0 ∷ get_or t 0 0 ∷ [])) → con ≡ rc
    → w.0 ≡ map (λ c. before (bit_xor sub con) s.0 (suc c)) (range_with_len 0 4) → state_of w ≡ next_key rc (state_of s)
unfolding state_of next_key
key_words rc s w t sub con small et es ec e =
    let k = le_bytes 4 (get_or s.0 3 0) in
    let moved = map sbox (get_or k 1 0 ∷ get_or k 2 0 ∷ get_or k 3 0 ∷ get_or k 0 0 ∷ []) in
    let turned : sub ≡ le_value moved =
    es ∙ ap (λ x. le_value (map sbox (get_or x 1 0 ∷ get_or x 2 0 ∷ get_or x 3 0 ∷ get_or x 0 0 ∷ []))) (et ∙ four_of (get_or s.0 3 0)) in
    let back : le_bytes 4 sub ≡ moved =
    ap (le_bytes 4) turned ∙ le_bytes-le_value moved (Bytes-of_four _ _ _ _ (sbox_byte _) (sbox_byte _) (sbox_byte _) (sbox_byte _)) in
    let constant = known con rc 0 0 0 (omega arith) small (lit< tt) (lit< tt) (lit< tt) in
    state_is w _ _ e (λ c _. before_is (bit_xor sub con) _ s.0 (xors_of sub con _ _ back constant.0) (suc c))

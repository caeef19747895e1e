-- The rounds on a block's two words, and those on a key's, are the rounds on all four: proofs, nobody has to believe them.
-- Assumes nothing.
use Rattle.std.specs.Prelude.{◌≡◌, ℕ, ◌+◌, ◌%◌, ◌^◌, ◌<◌, List, length, bit_xor, slice_index, slice_set, refl}
use Rattle.std.proofs.Common.{ap, ◌∙◌, add_comm, add-one, arith}
use Rattle.std.proofs.lemmas.List.Edits.{fill_by_more}
use Rattle.std.proofs.lemmas.List.{length-set}
use Rattle.base.specs.Bytes.{le_bytes}
use Rattle.base.proofs.Little.{Bytes-le_bytes}
use Rattle.base.proofs.Parts.{Bytes-append}
use Rattle.cipher.specs.Blocks.{Block, CipherLaws}
use Rattle.speck128.specs.Speck.{Words, ror, rol, rounds, start, joined, speck}

-- a round's answer on two words p and q with the round key k
abbrev Turned : ℕ → ℕ → ℕ → ℕ → ℕ → Type 0
Turned p q k r s = (r ≡ bit_xor ((ror p 8 + q) % 2 ^ 64) k) × (s ≡ bit_xor (rol q 3) r)

pub block_more : (i : ℕ) (w : Words) (x y k r s : ℕ) → x ≡ (rounds i w).x → y ≡ (rounds i w).y → k ≡ (rounds i w).k
    → Turned x y k r s → (r ≡ (rounds (i + 1) w).x) × (s ≡ (rounds (i + 1) w).y)
unfolding rounds
block_more i w x y k r s hx hy hk t =
    let e : r ≡ bit_xor ((ror (rounds i w).x 8 + (rounds i w).y) % 2 ^ 64) (rounds i w).k = t.0 ∙ simp (hx, hy, hk) in
    rw add-one (e, t.1 ∙ simp (hy, e))

pub key_more : (i : ℕ) (w : Words) (l k r s : ℕ) → l ≡ (rounds i w).l → k ≡ (rounds i w).k
    → Turned l k i r s → (r ≡ (rounds (i + 1) w).l) × (s ≡ (rounds (i + 1) w).k)
unfolding rounds
key_more i w l k r s hl hk t =
    let e : r ≡ bit_xor (((rounds i w).k + ror (rounds i w).l 8) % 2 ^ 64) i =
    t.0 ∙ simp (hl, hk) (ap (λ n. bit_xor (n % 2 ^ 64) i) (add_comm (ror (rounds i w).l 8) (rounds i w).k)) in
    rw add-one (e, t.1 ∙ simp (hk, e))

-- a schedule of which i round keys are written, with the key's words as round i begins
pub record Begun (key : List ℕ) (ks : List ℕ) (i l k : ℕ) : Type 0 where
  pub room : length ks ≡ 32
  pub written : (block : List ℕ) (j : ℕ) → j < i → slice_index ks j ≡ (rounds j (start key block)).k
  pub words : (block : List ℕ) → (l ≡ (rounds i (start key block)).l) × (k ≡ (rounds i (start key block)).k)

pub begun_none : (key ks : List ℕ) (l k : ℕ) → length ks ≡ 32 → l ≡ (start key key).l → k ≡ (start key key).k → Begun key ks 0 l k
unfolding rounds
begun_none key ks l k h p q = record { room = h; written = λ block j less. absurd (omega arith); words = λ block. (p, q) }

pub begun_more : (key ks : List ℕ) (i l k r s : ℕ) → Begun key ks i l k → i < 32 → Turned l k i r s → Begun key (slice_set ks i k) (i + 1) r s
begun_more key ks i l k r s b less t =
    let within : i < length ks = omega (arith, b.room) in
    record {
      room = length-set ks i k ∙ b.room;
      written = λ block. rw (b.words block).1 (fill_by_more (λ j. (rounds j (start key block)).k) ks i 0 within (b.written block));
      words = λ block. key_more i (start key block) l k r s (b.words block).0 (b.words block).1 t;
    }

pub speck_block : (key block : List ℕ) → Block (speck key block)
unfolding joined
speck_block key block = (refl, Bytes-append (le_bytes 8 _) (le_bytes 8 _) (Bytes-le_bytes 8 _) (Bytes-le_bytes 8 _))

pub speck_laws : CipherLaws 12 speck
speck_laws = record { small = omega arith; blocks = λ key block _ _. speck_block key block }

-- The state and the round keys hold bytes, which the interface asks to be shown: proofs, nobody has to believe them. Assumes nothing.
use Rattle.std.specs.Prelude.{ℕ, zero, suc, ◌+◌, ◌-◌, ◌*◌, ◌/◌, ◌%◌, ◌<◌, Bool, true, false, T, List, [], ◌∷◌, bit_xor, nat_lt, slice_index}
use Rattle.std.proofs.Common.{arith, ltb→lt}
use Rattle.std.proofs.lemmas.Nat.{xor_lt}
use Rattle.std.proofs.lemmas.Bool.{cond_both, ltb-true}
use Rattle.base.specs.Bytes.{Bytes}
use Rattle.cipher.specs.Blocks.{Block, CipherLaws}
use Rattle.cipher.proofs.Xor.{sixteen_block, xor_block}
use Rattle.aes128.specs.Aes.{at, table, sbox, xtime, thrice, sub_bytes, shift_rows, key_byte, next_key, rcon, round_key, rounds, aes}

abbrev both : Bool → Bool → Bool
both true b = b
both false b = false

both_left : (a b : Bool) → T (both a b) → T a
both_left true b t = tt
both_left false b t = t

both_right : (a b : Bool) → T (both a b) → T b
both_right true b t = t
both_right false b t = absurd t

-- each entry is a byte
abbrev small : List ℕ → Bool
small [] = true
small (x ∷ xs) = both (nat_lt x 256) (small xs)

small_at : (xs : List ℕ) → T (small xs) → (k : ℕ) → slice_index xs k < 256
small_at [] t k = omega arith
small_at (x ∷ xs) t zero = ltb→lt x 256 (both_left (nat_lt x 256) (small xs) t)
small_at (x ∷ xs) t (suc k) = small_at xs (both_right (nat_lt x 256) (small xs) t) k

pub sbox_byte : (x : ℕ) → sbox x < 256
unfolding sbox table
sbox_byte x = small_at table tt x

pub xtime_byte : (b : ℕ) → b < 256 → xtime b < 256
xtime_byte b h =
    cond_both (nat_lt b 128) (b * 2) (bit_xor ((b - 128) * 2) 27) (λ x. x < 256) (λ e. omega (arith, ltb-true b 128 e))
    (λ e. xor_lt 8 ((b - 128) * 2) 27 (omega arith) (omega arith))

pub thrice_byte : (b : ℕ) → b < 256 → thrice b < 256
thrice_byte b h = xor_lt 8 (xtime b) b (xtime_byte b h) h

sub_block : (s : List ℕ) → Block (sub_bytes s)
unfolding sub_bytes
sub_block s = sixteen_block (λ i. sbox (at s (i % 4) (i / 4))) (λ i. sbox_byte _)

shift_block : (s : List ℕ) → Bytes s → Block (shift_rows s)
unfolding shift_rows
shift_block s h = sixteen_block (λ i. at s (i % 4) ((i / 4 + i % 4) % 4)) (λ i. h _)

rcon_byte : (r : ℕ) → rcon r < 256
unfolding rcon
rcon_byte zero = omega arith
rcon_byte (suc r) = xtime_byte (rcon r) (rcon_byte r)

constant_byte : (rc r : ℕ) → rc < 256 → slice_index (rc ∷ 0 ∷ 0 ∷ 0 ∷ []) r < 256
constant_byte rc zero h = h
constant_byte rc (suc r) h = small_at (0 ∷ 0 ∷ 0 ∷ []) tt r

key_byte_lem : (rc : ℕ) (k : List ℕ) → rc < 256 → Bytes k → (r c : ℕ) → key_byte rc k r c < 256
key_byte_lem rc k h l r zero =
    xor_lt 8 (at k r 0) _ (l _)
    (xor_lt 8 (sbox (at k ((r + 1) % 4) 3)) (slice_index (rc ∷ 0 ∷ 0 ∷ 0 ∷ []) r) (sbox_byte _) (constant_byte rc r h))
key_byte_lem rc k h l r (suc c) = xor_lt 8 (at k r (suc c)) (key_byte rc k r c) (l _) (key_byte_lem rc k h l r c)

pub round_key_block : (key : List ℕ) → Block key → (r : ℕ) → Block (round_key key r)
unfolding round_key next_key
round_key_block key h zero = h
round_key_block key h (suc r) =
    let k = round_key key r in
    sixteen_block (λ i. key_byte (rcon r) k (i % 4) (i / 4)) (λ i. key_byte_lem (rcon r) k (rcon_byte r) (round_key_block key h r).1 (i % 4) (i / 4))

pub aes_block : (key block : List ℕ) → Block key → Block (aes key block)
aes_block key block h = xor_block _ _ (shift_block (sub_bytes (rounds key block 9)) (sub_block (rounds key block 9)).1).1 (round_key_block key h 10).1

pub aes_laws : CipherLaws 11 aes
aes_laws = record { small = omega arith; blocks = λ key block h _. aes_block key block h }

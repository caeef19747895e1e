-- The exclusive or of blocks: a block again, in any order, and it undoes itself. Assumes nothing.
use Rattle.std.proofs.Common.{◌≡◌, ℕ, zero, suc, ◌<◌, List, [], ◌∷◌, map, length, get_or, sym, refl, ap, ◌∙◌, arith}
use lib.Bits.{bit_xor, xor_lt, xor_comm, xor_assoc, xor_self, xor_zero_r}
use Rattle.std.specs.List.{range_with_len}
use Rattle.std.proofs.lemmas.List.FromFn.{fill_by_all, get_or-map-range_with_len}
use Rattle.base.specs.Bytes.{Bytes}
use Rattle.cipher.specs.Blocks.{Block, sixteen, xor}

pub sixteen_at : (f : ℕ → ℕ) (k : ℕ) → k < 16 → get_or (sixteen f) k 0 ≡ f k
sixteen_at f k l = get_or-map-range_with_len f 0 16 k k 0 l (omega arith)

-- two functions with the same values below sixteen make the same block
pub sixteen_same : (f g : ℕ → ℕ) → ((k : ℕ) → k < 16 → f k ≡ g k) → sixteen f ≡ sixteen g
sixteen_same f g h = fill_by_all g (sixteen f) 16 0 refl (λ k l. sixteen_at f k l ∙ h k l)

map_bytes : (f : ℕ → ℕ) → ((k : ℕ) → f k < 256) → (xs : List ℕ) → Bytes (map f xs)
map_bytes f h [] i = omega arith
map_bytes f h (x ∷ xs) zero = h x
map_bytes f h (x ∷ xs) (suc i) = map_bytes f h xs i

pub sixteen_block : (f : ℕ → ℕ) → ((k : ℕ) → f k < 256) → Block (sixteen f)
sixteen_block f h = (refl, map_bytes f h (range_with_len 0 16))

pub block_is_sixteen : (a : List ℕ) → length a ≡ 16 → a ≡ sixteen (λ k. get_or a k 0)
block_is_sixteen a h = fill_by_all (λ k. get_or a k 0) a 16 0 h (λ k l. refl)

pub length-xor : (a b : List ℕ) → length (xor a b) ≡ 16
unfolding xor
length-xor a b = refl

pub xor_at : (a b : List ℕ) (k : ℕ) → k < 16 → get_or (xor a b) k 0 ≡ bit_xor (get_or a k 0) (get_or b k 0)
unfolding xor
xor_at a b k l = sixteen_at (λ k. bit_xor (get_or a k 0) (get_or b k 0)) k l

pub xor_block : (a b : List ℕ) → Bytes a → Bytes b → Block (xor a b)
unfolding xor
xor_block a b ha hb = sixteen_block (λ k. bit_xor (get_or a k 0) (get_or b k 0)) (λ k. xor_lt 8 (get_or a k 0) (get_or b k 0) (ha k) (hb k))

pub xor-swap : (a b : List ℕ) → xor a b ≡ xor b a
unfolding xor
xor-swap a b = sixteen_same _ _ (λ k l. xor_comm (get_or a k 0) (get_or b k 0))

pub xor_regroup : (a b c : List ℕ) → xor (xor a b) c ≡ xor a (xor b c)
xor_regroup a b c = block_is_sixteen (xor (xor a b) c) (length-xor (xor a b) c)
    ∙ sixteen_same _ _ (λ k l.
    xor_at (xor a b) c k l ∙ ap (λ n. bit_xor n (get_or c k 0)) (xor_at a b k l) ∙ xor_assoc (get_or a k 0) (get_or b k 0) (get_or c k 0)
    ∙ sym (xor_at a (xor b c) k l ∙ ap (bit_xor (get_or a k 0)) (xor_at b c k l)))
    ∙ sym (block_is_sixteen (xor a (xor b c)) (length-xor a (xor b c)))

-- a ⊕ b ⊕ b is a
pub xor_back : (a b : List ℕ) → length a ≡ 16 → xor (xor a b) b ≡ a
xor_back a b h = block_is_sixteen (xor (xor a b) b) (length-xor (xor a b) b)
    ∙ sixteen_same _ _ (λ k l.
    xor_at (xor a b) b k l ∙ ap (λ n. bit_xor n (get_or b k 0)) (xor_at a b k l)
    ∙ xor_assoc (get_or a k 0) (get_or b k 0) (get_or b k 0) ∙ ap (bit_xor (get_or a k 0)) (xor_self (get_or b k 0)) ∙ xor_zero_r (get_or a k 0))
    ∙ sym (block_is_sixteen a h)

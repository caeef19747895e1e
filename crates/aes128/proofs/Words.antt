-- Words of four bytes, and states made of four words. Assumes nothing.
use Rattle.std.proofs.Common.{◌≡◌, ℕ, zero, suc, ◌+◌, ◌*◌, ◌/◌, ◌%◌, ◌^◌, ◌<◌, List, [], ◌∷◌, ◌++◌, map, get_or, sym, refl, ap, ◌∙◌, subst, arith}
use native.Mathlib.Nat.{div-div-eq-div-mul}
use lib.Bits.{bit_xor, xor_lt, xor_mod, xor_shr, xor_zero_r}
use Rattle.std.specs.Int.{w32, to_le_bytes}
use Rattle.std.specs.List.{range_with_len}
use Rattle.std.proofs.lemmas.List.FromFn.{get_or-map-range_with_len}
use Rattle.base.specs.Bytes.{Bytes, le_bytes, le_value}
use Rattle.base.proofs.Little.{le_bytes-le_value, le_value-le_bytes, le_value-lt}
use Rattle.cipher.specs.Blocks.{Block, xor}
use Rattle.cipher.proofs.Xor.{block_is_sixteen, sixteen_same}
use Rattle.aes128.specs.declared.columns.Columns.{Columns}
use Rattle.aes128.specs.Aes.{sbox, xtime, thrice, mixed, state, sub_bytes, shift_rows, mix_columns, round, last_round}
use Rattle.aes128.specs.Columns.{byte_in, state_of, shifted, word_at}
use Rattle.aes128.specs.Sizes.{sbox_byte, xtime_byte, thrice_byte}

abbrev pub xors : List ℕ → List ℕ → List ℕ
xors [] ys = []
xors (a ∷ xs) [] = []
xors (a ∷ xs) (b ∷ ys) = bit_xor a b ∷ xors xs ys

le_bytes-xor : (width a b : ℕ) → le_bytes width (bit_xor a b) ≡ xors (le_bytes width a) (le_bytes width b)
le_bytes-xor zero a b = refl
le_bytes-xor (suc width) a b =
    ap (λ n. n ∷ le_bytes width (bit_xor a b / 256)) (xor_mod a b 8)
    ∙ ap (λ n. bit_xor (a % 256) (b % 256) ∷ le_bytes width n) (xor_shr a b 8)
    ∙ ap (λ l. bit_xor (a % 256) (b % 256) ∷ l) (le_bytes-xor width (a / 256) (b / 256))

pub xors_of : (a b : ℕ) (xs ys : List ℕ) → le_bytes 4 a ≡ xs → le_bytes 4 b ≡ ys → le_bytes 4 (bit_xor a b) ≡ xors xs ys
xors_of a b xs ys p q = le_bytes-xor 4 a b ∙ ap (λ l. xors l (le_bytes 4 b)) p ∙ ap (xors xs) q

pub four_of : (n : ℕ) → to_le_bytes w32 n ≡ le_bytes 4 n
four_of n = simp div-div-eq-div-mul

pub Bytes-of_four : (p q u v : ℕ) → p < 256 → q < 256 → u < 256 → v < 256 → Bytes (p ∷ q ∷ u ∷ v ∷ [])
Bytes-of_four p q u v hp hq hu hv zero = hp
Bytes-of_four p q u v hp hq hu hv (suc zero) = hq
Bytes-of_four p q u v hp hq hu hv (suc (suc zero)) = hu
Bytes-of_four p q u v hp hq hu hv (suc (suc (suc zero))) = hv
Bytes-of_four p q u v hp hq hu hv (suc (suc (suc (suc i)))) = omega arith

sum_byte : (p q u v : ℕ) → p < 256 → q < 256 → u < 256 → v < 256 → bit_xor (bit_xor (bit_xor p q) u) v < 256
sum_byte p q u v hp hq hu hv = xor_lt 8 (bit_xor (bit_xor p q) u) v (xor_lt 8 (bit_xor p q) u (xor_lt 8 p q hp hq) hu) hv

mixed_back : (p q u v : ℕ) → p < 256 → q < 256 → u < 256 → v < 256 → le_bytes 4 (le_value (mixed p q u v)) ≡ mixed p q u v
mixed_back p q u v hp hq hu hv =
    le_bytes-le_value (mixed p q u v)
    (Bytes-of_four _ _ _ _
    (sum_byte (xtime p) (thrice q) u v (xtime_byte p hp) (thrice_byte q hq) hu hv)
    (sum_byte p (xtime q) (thrice u) v hp (xtime_byte q hq) (thrice_byte u hu) hv)
    (sum_byte p q (xtime u) (thrice v) hp hq (xtime_byte u hu) (thrice_byte v hv))
    (sum_byte (thrice p) q u (xtime v) (thrice_byte p hp) hq hu (xtime_byte v hv)))

-- a state by its words
pub state_is : (w : Columns) (F : ℕ → ℕ) (P : ℕ → List ℕ) → w.0 ≡ map F (range_with_len 0 4) → ((c : ℕ) → c < 4 → le_bytes 4 (F c) ≡ P c)
    → state_of w ≡ state (λ r c. get_or (P c) r 0)
unfolding state_of
state_is w F P e h =
    ap (λ ws. state (λ r c. byte_in (get_or ws c 0) r)) e
    ∙ sixteen_same _ _ (λ k l.
    let c : k / 4 < 4 = omega arith in
    ap (λ n. byte_in n (k % 4)) (get_or-map-range_with_len F 0 4 (k / 4) (k / 4) 0 c (omega arith)) ∙ ap (λ bs. get_or bs (k % 4) 0) (h (k / 4) c))

abbrev pub added : Columns → Columns → ℕ → ℕ
added s k c = bit_xor (get_or s.0 c 0) (get_or k.0 c 0)

pub xor_bytes : (s k w : Columns) → w.0 ≡ map (added s k) (range_with_len 0 4) → state_of w ≡ xor (state_of s) (state_of k)
unfolding state_of xor
xor_bytes s k w e = state_is w (added s k) _ e (λ c _. le_bytes-xor 4 (get_or s.0 c 0) (get_or k.0 c 0))

-- a column with a round key put on it, of a state after the S-box and ShiftRows, and after MixColumns too
abbrev moved : Columns → ℕ → List ℕ
moved s c = map sbox (map (shifted s.0 c) (range_with_len 0 4))

abbrev pub moved_with : Columns → Columns → ℕ → ℕ
moved_with s k c = bit_xor (le_value (moved s c)) (get_or k.0 c 0)

abbrev blended : Columns → ℕ → List ℕ
blended s c = mixed (sbox (shifted s.0 c 0)) (sbox (shifted s.0 c 1)) (sbox (shifted s.0 c 2)) (sbox (shifted s.0 c 3))

abbrev pub blended_with : Columns → Columns → ℕ → ℕ
blended_with s k c = bit_xor (le_value (blended s c)) (get_or k.0 c 0)

keyed : (k w : Columns) (m : ℕ → List ℕ) → ((c : ℕ) → le_bytes 4 (le_value (m c)) ≡ m c)
    → w.0 ≡ map (λ c. bit_xor (le_value (m c)) (get_or k.0 c 0)) (range_with_len 0 4)
    → state_of w ≡ state (λ r c. get_or (xors (m c) (le_bytes 4 (get_or k.0 c 0))) r 0)
keyed k w m back e =
    state_is w _ _ e (λ c _. xors_of (le_value (m c)) (get_or k.0 c 0) (m c) (le_bytes 4 (get_or k.0 c 0)) (back c) refl)

pub round_bytes : (s k w : Columns) → w.0 ≡ map (blended_with s k) (range_with_len 0 4) → state_of w ≡ round (state_of k) (state_of s)
unfolding state_of sub_bytes shift_rows mix_columns xor
round_bytes s k w e = keyed k w (blended s) (λ c. mixed_back _ _ _ _ (sbox_byte _) (sbox_byte _) (sbox_byte _) (sbox_byte _)) e

pub last_bytes : (s k w : Columns) → w.0 ≡ map (moved_with s k) (range_with_len 0 4) → state_of w ≡ last_round (state_of k) (state_of s)
unfolding state_of sub_bytes shift_rows xor
last_bytes s k w e =
    keyed k w (moved s) (λ c. le_bytes-le_value (moved s c) (Bytes-of_four _ _ _ _ (sbox_byte _) (sbox_byte _) (sbox_byte _) (sbox_byte _))) e

-- the words in a column that stands twice, from its bytes 0, 3, 2 and 1 on
turned : (n p q u v : ℕ) → n ≡ le_value (p ∷ q ∷ u ∷ v ∷ p ∷ q ∷ u ∷ v ∷ []) → p < 256 → q < 256 → u < 256 → v < 256
    → (n % 2 ^ 32 ≡ le_value (p ∷ q ∷ u ∷ v ∷ [])) × (n / 2 ^ 24 % 2 ^ 32 ≡ le_value (v ∷ p ∷ q ∷ u ∷ []))
    × (n / 2 ^ 16 % 2 ^ 32 ≡ le_value (u ∷ v ∷ p ∷ q ∷ [])) × (n / 2 ^ 8 % 2 ^ 32 ≡ le_value (q ∷ u ∷ v ∷ p ∷ []))
turned n p q u v e hp hq hu hv = (omega arith, omega arith, omega arith, omega arith)

-- a word that is known by its bytes
pub known : (n p q u v : ℕ) → n ≡ le_value (p ∷ q ∷ u ∷ v ∷ []) → p < 256 → q < 256 → u < 256 → v < 256 → (le_bytes 4 n ≡ p ∷ q ∷ u ∷ v ∷ []) × (n < 2 ^ 32)
known n p q u v e hp hq hu hv =
    let bytes = Bytes-of_four p q u v hp hq hu hv in
    (ap (le_bytes 4) e ∙ le_bytes-le_value (p ∷ q ∷ u ∷ v ∷ []) bytes, subst (λ m. m < 2 ^ 32) (sym e) (le_value-lt (p ∷ q ∷ u ∷ v ∷ []) bytes))

-- what MixColumns makes of a column is made of what it makes of each row alone
pub mixed_rows : (p q u v a b c d a1 b1 c1 d1 : ℕ) → p < 256 → q < 256 → u < 256 → v < 256
    → a ≡ le_value (mixed p 0 0 0 ++ mixed p 0 0 0) → b ≡ le_value (mixed q 0 0 0 ++ mixed q 0 0 0)
    → c ≡ le_value (mixed u 0 0 0 ++ mixed u 0 0 0) → d ≡ le_value (mixed v 0 0 0 ++ mixed v 0 0 0)
    → a1 ≡ a % 2 ^ 32 → b1 ≡ b / 2 ^ 24 % 2 ^ 32 → c1 ≡ c / 2 ^ 16 % 2 ^ 32 → d1 ≡ d / 2 ^ 8 % 2 ^ 32
    → bit_xor (bit_xor (bit_xor a1 b1) c1) d1 ≡ le_value (mixed p q u v)
mixed_rows p q u v a b c d a1 b1 c1 d1 hp hq hu hv ea eb ec ed la lb lc ld =
    let column : (x : ℕ) → mixed x 0 0 0 ≡ xtime x ∷ x ∷ x ∷ thrice x ∷ [] = λ x. simp xor_zero_r in
    let turn = λ (n x : ℕ) (e : n ≡ le_value (mixed x 0 0 0 ++ mixed x 0 0 0)) (h : x < 256).
    turned n (xtime x) x x (thrice x) (e ∙ ap (λ m. le_value (m ++ m)) (column x)) (xtime_byte x h) h h (thrice_byte x h) in
    let ka = known a1 (xtime p) p p (thrice p) (la ∙ (turn a p ea hp).0) (xtime_byte p hp) hp hp (thrice_byte p hp) in
    let kb = known b1 (thrice q) (xtime q) q q (lb ∙ (turn b q eb hq).1) (thrice_byte q hq) (xtime_byte q hq) hq hq in
    let kc = known c1 u (thrice u) (xtime u) u (lc ∙ (turn c u ec hu).2) hu (thrice_byte u hu) (xtime_byte u hu) hu in
    let kd = known d1 v v (thrice v) (xtime v) (ld ∙ (turn d v ed hv).3) hv hv (thrice_byte v hv) (xtime_byte v hv) in
    sym (le_value-le_bytes 4 _ (xor_lt 32 _ _ (xor_lt 32 _ _ (xor_lt 32 _ _ ka.1 kb.1) kc.1) kd.1))
    ∙ ap le_value (xors_of _ _ _ _ (xors_of _ _ _ _ (xors_of _ _ _ _ ka.0 kb.0) kc.0) kd.0)

-- the columns of a block
abbrev pub read_from : List ℕ → ℕ → ℕ
read_from block c = word_at block (4 * c)

pub read_bytes : (block : List ℕ) (w : Columns) → Block block → w.0 ≡ map (read_from block) (range_with_len 0 4) → state_of w ≡ block
read_bytes block w h e =
    let at = λ (i : ℕ). get_or block i 0 in
    state_is w (read_from block) (λ c. at (4 * c) ∷ at (4 * c + 1) ∷ at (4 * c + 2) ∷ at (4 * c + 3) ∷ []) e
    (λ c l. (known (read_from block c) (at (4 * c)) (at (4 * c + 1)) (at (4 * c + 2)) (at (4 * c + 3)) (omega arith) (h.1 _) (h.1 _) (h.1 _) (h.1 _)).0)
    ∙ sym (block_is_sixteen block h.0)

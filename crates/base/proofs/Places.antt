-- Little-endian numbers at a place of a buffer. Assumes nothing.
use Rattle.std.proofs.Common.{◌≡◌, ℕ, zero, suc, ◌+◌, ◌*◌, ◌/◌, ◌%◌, ◌^◌, ◌<◌, ◌≤◌, min, List, [], ◌∷◌, ◌++◌, length, get_or, take, drop, set, sym, refl, ap, ◌∙◌, ⊎_elim, add-zero, add_assoc, suc-add, div-one, arith}
use native.Mathlib.Nat.{pow-succ', div-div-eq-div-mul}
use Rattle.std.proofs.lemmas.List.{get_or-take, get_or-drop, get_or_past, length-take, length-take-le, length-append, append_assoc, take-append-drop, drop_more, drop_all, set_at}
use Rattle.std.proofs.lemmas.Bool.{cases_lt}
use Rattle.base.specs.Bytes.{le_bytes, le_value, part, written}

pub part_at : (bs : List ℕ) (at width i : ℕ) → i < width → get_or (part bs at width) i 0 ≡ get_or bs (at + i) 0
part_at bs at width i h = get_or-take width (drop at bs) i 0 h ∙ get_or-drop at bs i 0

pub part_past : (bs : List ℕ) (at width i : ℕ) → width ≤ i → get_or (part bs at width) i 0 ≡ 0
part_past bs at width i h = get_or_past (part bs at width) i 0 (rw length-take (omega arith))

pub le_value_four : (xs : List ℕ) → length xs ≤ 4 →
    le_value xs ≡ get_or xs 0 0 + get_or xs 1 0 * 256 + get_or xs 2 0 * 65536 + get_or xs 3 0 * 16777216
le_value_four [] h = refl
le_value_four (a ∷ []) h = omega arith
le_value_four (a ∷ b ∷ []) h = omega arith
le_value_four (a ∷ b ∷ c ∷ []) h = omega arith
le_value_four (a ∷ b ∷ c ∷ d ∷ []) h = omega arith
le_value_four (a ∷ b ∷ c ∷ d ∷ e ∷ xs) h = absurd (omega arith)

-- one more byte of a number, above the others
pub le_bytes_more : (w n : ℕ) → le_bytes (w + 1) n ≡ le_bytes w n ++ (n / 256 ^ w % 256) ∷ []
le_bytes_more zero n = ap (λ m. (m % 256) ∷ []) (sym (div-one n))
le_bytes_more (suc w) n =
    let high : n / 256 / 256 ^ w ≡ n / 256 ^ suc w = div-div-eq-div-mul n 256 (256 ^ w) ∙ ap (λ m. n / m) (sym (pow-succ' 256 w)) in
    ap (λ m. le_bytes m n) (suc-add w 1) ∙ ap (λ xs. n % 256 ∷ xs) (le_bytes_more w (n / 256))
    ∙ ap (λ m. n % 256 ∷ (le_bytes w (n / 256) ++ (m % 256) ∷ [])) high

-- a loop that overwrites a buffer from a place on
pub written_none : (out : List ℕ) (at : ℕ) → written out at [] ≡ out
written_none out at = ap (λ m. take at out ++ drop m out) (add-zero at) ∙ take-append-drop at out

pub written_more : (out bs : List ℕ) (at i x : ℕ) → length bs ≡ i → at + i < length out → set (written out at bs) (at + i) x ≡ written out at (bs ++ x ∷ [])
written_more out bs at i x n h =
    let front = take at out ++ bs in
    let long : length front ≡ at + i = length-append (take at out) bs ∙ ap (λ m. m + length bs) (length-take-le at out (omega arith)) ∙ ap (λ m. at + m) n in
    let rest : drop (at + length bs) out ≡ get_or out (at + i) 0 ∷ drop (at + i + 1) out = ap (λ m. drop (at + m) out) n ∙ drop_more out (at + i) 0 h in
    let end : at + i + 1 ≡ at + length (bs ++ x ∷ []) = add_assoc at i 1 ∙ ap (λ m. at + m) (ap (λ m. m + 1) (sym n) ∙ sym (length-append bs (x ∷ []))) in
    ap (λ xs. set xs (at + i) x) (sym (append_assoc (take at out) bs (drop (at + length bs) out)) ∙ ap (λ xs. front ++ xs) rest)
    ∙ set_at front (get_or out (at + i) 0) (drop (at + i + 1) out) x (at + i) long
    ∙ append_assoc (take at out) bs (x ∷ drop (at + i + 1) out) ∙ ap (λ m. take at out ++ (bs ++ x ∷ drop m out)) end
    ∙ ap (λ xs. take at out ++ xs) (sym (append_assoc bs (x ∷ []) (drop (at + length (bs ++ x ∷ [])) out)))

-- a place past the end reads nothing, so a sum that is held at the largest number reads the same
pub part_saturated : (bs : List ℕ) (a b n width : ℕ) → length bs ≤ n → part bs (min (min a n + b) n) width ≡ part bs (a + b) width
part_saturated bs a b n width h = ⊎_elim (λ l. let e : min (min a n + b) n ≡ a + b = omega arith in ap (λ m. part bs m width) e)
    (λ l.
    let low : length bs ≤ min (min a n + b) n = omega arith in
    let high : length bs ≤ a + b = omega arith in
    ap (take width) (drop_all (min (min a n + b) n) bs low ∙ sym (drop_all (a + b) bs high))) (cases_lt (a + b) n)

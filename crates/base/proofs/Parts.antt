-- Parts of lists, buffers that are filled from the front, and bytes. Assumes nothing.
use Rattle.std.proofs.Common.{◌≡◌, ℕ, zero, suc, ◌+◌, ◌≤◌, min, List, [], ◌∷◌, ◌++◌, length, take, drop, sym, refl, ap, ◌∙◌, ⊎_elim, arith, lit<}
use Rattle.std.proofs.lemmas.List.{append_assoc, drop_at, drop-drop, drop-take, get_or-drop, length-append, length-drop, length-take-le, take_all, take-append-drop, take_at, take-take}
use Rattle.std.proofs.lemmas.Bool.{cases_lt}
use Rattle.base.specs.Bytes.{Bytes, part, over}

pub take-add : (m n : ℕ) (xs : List ℕ) → take (m + n) xs ≡ take m xs ++ take n (drop m xs)
take-add m n xs =
    let le : m ≤ m + n = omega arith in
    sym (ap (λ z. z ++ take n (drop m xs)) (sym (take-take m (m + n) xs le)) ∙ ap (λ z. take m (take (m + n) xs) ++ z) (sym (drop-take m n xs))
    ∙ take-append-drop m (take (m + n) xs))

-- a front is as long as it is, and a longer one is no longer than the list
pub take-size : (n : ℕ) (xs : List ℕ) → take (length (take n xs)) xs ≡ take n xs
take-size zero xs = refl
take-size (suc n) [] = refl
take-size (suc n) (x ∷ xs) = ap (λ z. x ∷ z) (take-size n xs)

pub take-upto : (n : ℕ) (xs : List ℕ) → take (min (length xs) n) xs ≡ take n xs
take-upto n xs =
    ⊎_elim
    (λ l. ap (λ m. take m xs) (omega arith) ∙ take_all (length xs) xs (omega arith) ∙ sym (take_all n xs (omega arith)))
    (λ l. ap (λ m. take m xs) (omega arith))
    (cases_lt (length xs) n)

-- what is written where the front ends makes the front longer
pub over_next : (a b d : List ℕ) (at : ℕ) → length a ≡ at → take at (over a d) ++ (b ++ drop (at + length b) (over a d)) ≡ over (a ++ b) d
over_next a b d at h =
    let back : drop (at + length b) (over a d) ≡ drop (length (a ++ b)) d =
    sym (drop-drop (length b) at (over a d)) ∙ ap (drop (length b)) (drop_at a (drop (length a) d) at h) ∙ drop-drop (length b) (length a) d
    ∙ ap (λ n. drop n d) (sym (length-append a b)) in
    ap (λ z. z ++ (b ++ drop (at + length b) (over a d))) (take_at a (drop (length a) d) at h) ∙ ap (λ z. a ++ (b ++ z)) back
    ∙ sym (append_assoc a b (drop (length (a ++ b)) d))

pub Bytes-drop : (n : ℕ) (xs : List ℕ) → Bytes xs → Bytes (drop n xs)
Bytes-drop n xs h i = rw (get_or-drop n xs i 0) (h (n + i))

pub Bytes-take : (n : ℕ) (xs : List ℕ) → Bytes xs → Bytes (take n xs)
Bytes-take zero xs h i = lit< tt
Bytes-take (suc n) [] h i = lit< tt
Bytes-take (suc n) (x ∷ xs) h zero = h 0
Bytes-take (suc n) (x ∷ xs) h (suc i) = Bytes-take n xs (λ k. h (suc k)) i

pub Bytes-append : (xs ys : List ℕ) → Bytes xs → Bytes ys → Bytes (xs ++ ys)
Bytes-append [] ys hx hy i = hy i
Bytes-append (x ∷ xs) ys hx hy zero = hx 0
Bytes-append (x ∷ xs) ys hx hy (suc i) = Bytes-append xs ys (λ k. hx (suc k)) hy i

pub Bytes-part : (xs : List ℕ) (at n : ℕ) → Bytes xs → Bytes (part xs at n)
Bytes-part xs at n h = Bytes-take n (drop at xs) (Bytes-drop at xs h)

pub length_part : (xs : List ℕ) (at n : ℕ) → at + n ≤ length xs → length (part xs at n) ≡ n
length_part xs at n h = length-take-le n (drop at xs) (omega (arith, length-drop at xs))

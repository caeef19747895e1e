-- What `all` answers over a chain, as a test at each number, and the chunks of a slice. Assumes nothing.
use Rattle.std.proofs.Common.{◌≡◌, ℕ, zero, suc, ◌+◌, ◌*◌, ◌/◌, ◌<◌, ◌≤◌, Bool, true, false, not, ◌&&◌, ◌||◌, eqb, List, [], ◌∷◌, ◌++◌, map, length, take, drop, get_or, sym, refl, ap, ◌∙◌, ⊎_elim, zero-add, zero-mul, add-mul, one-mul, add_comm, add-one, arith}
use native.Mathlib.Nat.{add-mul-div_right, div-eq_of_lt}
use Rattle.std.specs.List.{range_with_len, enumerate_from, list_all, list_any}
use Rattle.std.specs.Slice.Iter.{chunks_exact_rest, chunks_exact_size, chunks_exact_steps}
use Rattle.std.proofs.Math.Seq.{take-suc}
use Rattle.std.proofs.lemmas.Bool.{cases_Bool, true≢false}
use Rattle.std.proofs.lemmas.Iterator.{YieldsList}
use Rattle.std.proofs.lemmas.Iterator.Splits.{YieldsList-from_shown_while}
use Rattle.std.proofs.lemmas.List.{take_at, drop_at, drop-drop, length-append, map-id}
use Rattle.std.proofs.lemmas.List.Folds.{list_all-append, list_any-append}
use Rattle.std.proofs.lemmas.List.FromFn.{fill_by_all, get_or-map-range_with_len, length-map-range_with_len, map-range_with_len_more, length-enumerate_from, get_or-enumerate_from}
use Rattle.base.specs.Bytes.{part}
use Rattle.base.specs.Tests.{every}
use Rattle.base.proofs.Every.{every_so, every_at}
use Rattle.algebra.specs.Polynomials.{at}

and-true : (b : Bool) → (b && true) ≡ b
and-true true = refl
and-true false = refl

-- a test of each thing that is listed is the test at each number
pub all_listed : {X : Type 0} (test : X → Bool) (f : ℕ → X) (n : ℕ) → list_all test (map f (range_with_len 0 n)) ≡ every n (λ i. test (f i))
unfolding every
all_listed test f zero = refl
all_listed test f (suc n) =
    ap (λ m. list_all test (map f (range_with_len 0 m))) (sym (add-one n)) ∙ ap (list_all test) (map-range_with_len_more f 0 n n (zero-add n))
    ∙ list_all-append test (map f (range_with_len 0 n)) (f n ∷ []) ∙ ap (λ b. b && (test (f n) && true)) (all_listed test f n) ∙ ap (λ b. every n (λ i. test (f i)) && b) (and-true (test (f n)))

pub all_counted : (test : ℕ → Bool) (n : ℕ) → list_all test (range_with_len 0 n) ≡ every n test
all_counted test n = ap (list_all test) (sym (map-id (range_with_len 0 n))) ∙ all_listed test (λ i. i) n

-- the same of each element with its number
pub all_numbered : (test : ℕ × ℕ → Bool) (xs : List ℕ) → list_all test (enumerate_from 0 xs) ≡ every (length xs) (λ i. test (i, at xs i))
all_numbered test xs =
    ap (list_all test) (fill_by_all (λ i. (i, at xs i)) (enumerate_from 0 xs) (length xs) (0, 0) (length-enumerate_from 0 xs)
    (λ k h. get_or-enumerate_from 0 xs k (0, 0) h ∙ ap (λ m. (m, at xs k)) (zero-add k)))
    ∙ all_listed test (λ i. (i, at xs i)) (length xs)

-- the whole chunks of a list, each of one size
abbrev pub chunk : ℕ → List ℕ → ℕ → List ℕ
chunk size xs i = part xs (i * size) size

abbrev pub chunks : ℕ → List ℕ → List (List ℕ)
chunks size xs = map (chunk size xs) (range_with_len 0 (length xs / size))

chunks_more : (size : ℕ) (x rest : List ℕ) → 0 < size → length x ≡ size → chunks size (x ++ rest) ≡ x ∷ chunks size rest
chunks_more size x rest pos long =
    let n = length rest / size in
    let f = chunk size (x ++ rest) in
    let count : length (x ++ rest) / size ≡ suc n =
    ap (λ m. m / size) (length-append x rest ∙ omega (arith, long, one-mul size)) ∙ add-mul-div_right (length rest) 1 pos ∙ add-one n in
    let first : f 0 ≡ x = ap (λ a. take size (drop a (x ++ rest))) (zero-mul size) ∙ take_at x rest size long in
    let next : (i : ℕ) → f (i + 1) ≡ chunk size rest i =
    λ i. ap (λ a. take size (drop a (x ++ rest))) (omega (arith, add-mul i 1 size, one-mul size)) ∙ ap (take size) (sym (drop-drop (i * size) size (x ++ rest)) ∙ ap (drop (i * size)) (drop_at x rest size long)) in
    ap (λ m. map f (range_with_len 0 m)) count ∙ ap (λ y. y ∷ map f (range_with_len 1 n)) first
    ∙ ap (λ ys. x ∷ ys) (fill_by_all (chunk size rest) (map f (range_with_len 1 n)) n [] (length-map-range_with_len f 1 n)
    (λ k h. get_or-map-range_with_len f 1 n k (k + 1) [] h (add_comm 1 k) ∙ next k))

-- what chunks_exact yields
pub chunks_yielded : (size : ℕ) (xs : List ℕ) (s : _) → chunks_exact_rest {T = ℕ} s ≡ xs → chunks_exact_size s ≡ size → 0 < size → YieldsList chunks_exact_steps (λ y. y.now) s (chunks size xs)
chunks_yielded size xs s er es pos =
    let same : chunks (chunks_exact_size s) (chunks_exact_rest s) ≡ chunks size xs = cc in
    rw same at (YieldsList-from_shown_while chunks_exact_steps (λ y. y.now) (λ s. chunks (chunks_exact_size s) (chunks_exact_rest s)) (λ s. 0 < chunks_exact_size s)
    (λ s t p e. length-map-range_with_len (chunk (chunks_exact_size s) (chunks_exact_rest s)) 0 (length (chunks_exact_rest s) / chunks_exact_size s) ∙ div-eq_of_lt e.1.0)
    (λ s x t p e. (omega (arith, e.0), ap (chunks (chunks_exact_size s)) e.1.0 ∙ chunks_more (chunks_exact_size s) x.now (chunks_exact_rest t) p e.1.1 ∙ ap (λ m. x.now ∷ chunks m (chunks_exact_rest t)) (sym e.0)))
    s (omega (arith, es)))

eqb-swap : (a b : ℕ) → eqb a b ≡ eqb b a
eqb-swap a b = grind arith

neither : (a b : Bool) → not (a || (b || false)) ≡ (not a && not b)
neither true b = refl
neither false true = refl
neither false false = refl

-- whether x is none of the first i elements
pub none_before : (xs : List ℕ) (i x : ℕ) → i ≤ length xs → not (list_any (λ y. eqb y x) (take i xs)) ≡ every i (λ j. not (eqb x (at xs j)))
unfolding every
none_before xs zero x h = refl
none_before xs (suc i) x h =
    ap (λ ys. not (list_any (λ y. eqb y x) ys)) (take-suc xs i 0 (omega arith)) ∙ ap not (list_any-append (λ y. eqb y x) (take i xs) (at xs i ∷ []))
    ∙ neither (list_any (λ y. eqb y x) (take i xs)) (eqb (at xs i) x) ∙ ap (λ b. b && not (eqb (at xs i) x)) (none_before xs i x (omega arith))
    ∙ ap (λ b. every i (λ j. not (eqb x (at xs j))) && not b) (eqb-swap (at xs i) x)

-- the whole chunks of a list, each with its number
pub all_chunks : (test : ℕ × List ℕ → Bool) (size : ℕ) (xs : List ℕ) → list_all test (enumerate_from 0 (chunks size xs)) ≡ every (length xs / size) (λ i. test (i, chunk size xs i))
all_chunks test size xs =
    let n = length xs / size in
    let long : length (chunks size xs) ≡ n = length-map-range_with_len (chunk size xs) 0 n in
    ap (list_all test) (fill_by_all (λ i. (i, chunk size xs i)) (enumerate_from 0 (chunks size xs)) n (0, []) (length-enumerate_from 0 (chunks size xs) ∙ long)
    (λ k h. get_or-enumerate_from 0 (chunks size xs) k (0, []) (omega (arith, long, h)) ∙ ap (λ m. (m, get_or (chunks size xs) k [])) (zero-add k)
    ∙ ap (λ ys. (k, ys)) (get_or-map-range_with_len (chunk size xs) 0 n k k [] h (zero-add k))))
    ∙ all_listed test (λ i. (i, chunk size xs i)) n

-- tests at each pair of numbers, whichever goes first
pub every_swapped : (m n : ℕ) (test : ℕ → ℕ → Bool) → every m (λ j. every n (λ i. test j i)) ≡ every n (λ i. every m (λ j. test j i))
every_swapped m n test = ⊎_elim
    (λ t. t ∙ sym (every_so n _ (λ i hi. every_so m _ (λ j hj. every_at n _ (every_at m _ t j hj) i hi))))
    (λ f. ⊎_elim (λ t. absurd (true≢false (sym (every_so m _ (λ j hj. every_so n _ (λ i hi. every_at m _ (every_at n _ t i hi) j hj))) ∙ f))) (λ g. f ∙ sym g) (cases_Bool (every n (λ i. every m (λ j. test j i)))))
    (cases_Bool (every m (λ j. every n (λ i. test j i))))

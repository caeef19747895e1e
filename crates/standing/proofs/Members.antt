-- Sets, counts and lists of the numbers that pass a test, and how a loop makes them. Assumes nothing.
use Rattle.std.proofs.Common.{◌≡◌, ℕ, zero, suc, ◌+◌, ◌*◌, ◌%◌, ◌^◌, ◌<◌, ◌≤◌, Bool, true, false, cond, not, ◌&&◌, ltb, List, [], ◌∷◌, ◌++◌, length, take, set, filter, sym, refl, ap, ◌∙◌, ⊎_elim, pow-suc, zero-add, add-one, bit_and, bit_or, arith}
use Rattle.std.specs.List.{range_with_len}
use Rattle.std.proofs.lemmas.List.Elements.{filter-append}
use Rattle.std.proofs.lemmas.List.{append-nil, length-append, length-take, length-take-le, take_all, take-append-le}
use Rattle.std.proofs.lemmas.Bool.{cases_lt, lt-ltb, le-ltb}
use Rattle.std.proofs.lemmas.Nat.{one_shl, or_disjoint}
use Rattle.std.proofs.lemmas.Nat.Bits.{and_pow, bit_at_above}
use Rattle.base.proofs.Pieces.{counting_more}
use Rattle.standing.specs.Sets.{count_of, lowest, members, set_of}

at_most_one : (b : Bool) (n : ℕ) → length (cond b (n ∷ []) []) ≤ 1
at_most_one true n = omega arith
at_most_one false n = omega arith

-- one more number, where fewer than k were taken
take_next : (k n : ℕ) (xs : List ℕ) (b : Bool) → take k (xs ++ cond b (n ∷ []) []) ≡ take k xs ++ cond (ltb (length (take k xs)) k && b) (n ∷ []) []
take_next k n xs b = ⊎_elim
    (λ l.
    let all : take k xs ≡ xs = take_all k xs (omega arith) in
    let few : ltb (length (take k xs)) k ≡ true = ap (λ ys. ltb (length ys) k) all ∙ lt-ltb (length xs) k l in
    take_all k (xs ++ cond b (n ∷ []) []) (omega (arith, length-append xs (cond b (n ∷ []) []), at_most_one b n))
    ∙ ap (λ ys. ys ++ cond b (n ∷ []) []) (sym all) ∙ ap (λ t. take k xs ++ cond (t && b) (n ∷ []) []) (sym few))
    (λ l.
    let full : ltb (length (take k xs)) k ≡ false = le-ltb (length (take k xs)) k (omega (arith, length-take-le k xs l)) in
    take-append-le k xs (cond b (n ∷ []) []) l ∙ sym (append-nil (take k xs)) ∙ ap (λ t. take k xs ++ cond (t && b) (n ∷ []) []) (sym full)) (cases_lt (length xs) k)

-- a number that no member of a set reaches is one more bit
pub one_more_bit : (set n : ℕ) → n < 16 → set < 2 ^ n → bit_or set (1 * 2 ^ n % 65536) ≡ set + 2 ^ n
one_more_bit set n few under =
    let apart : bit_and set (2 ^ n) ≡ 0 = omega (arith, and_pow set n, ap (λ b. b * 2 ^ n) (bit_at_above set n n under (omega arith))) in
    ap (bit_or set) (one_shl n 16 few) ∙ or_disjoint set (2 ^ n) apart

module _ (test : ℕ → Bool) where
  pub set_none : set_of test 0 ≡ 0
  unfolding set_of
  set_none = refl

  pub set_more : (n : ℕ) → set_of test (n + 1) ≡ set_of test n + cond (test n) (2 ^ n) 0
  unfolding set_of
  set_more n = ap (set_of test) (add-one n)

  below : (n : ℕ) → set_of test n < 2 ^ n
  unfolding set_of
  below zero = omega arith
  below (suc n) = rw pow-suc (omega (arith, below n, member (test n)))
    where
      member : (b : Bool) → cond b (2 ^ n) 0 ≤ 2 ^ n
      member true = omega arith
      member false = omega arith

  pub set_next : (n set next : ℕ) (b : Bool) → n < 16 → set ≡ set_of test n → b ≡ test n → (n < 16 → set < 2 ^ n → next ≡ set + cond b (2 ^ n) 0) → next ≡ set_of test (n + 1)
  set_next n set next b few e t r = r few (omega (arith, e, below n)) ∙ ap (λ m. m + cond b (2 ^ n) 0) e ∙ ap (λ a. set_of test n + cond a (2 ^ n) 0) t ∙ sym (set_more n)

  pub members_more : (n : ℕ) → members test (n + 1) ≡ members test n ++ cond (test n) (n ∷ []) []
  members_more n =
      ap (filter test) (counting_more 0 n ∙ ap (λ m. range_with_len 0 n ++ m ∷ []) (zero-add n)) ∙ filter-append test (range_with_len 0 n) (n ∷ [])

  pub count_at_most : (n : ℕ) → count_of test n ≤ n
  count_at_most zero = omega arith
  count_at_most (suc n) = omega (
    arith,
    ap (count_of test) (add-one n),
    ap length (members_more n),
    length-append (members test n) (cond (test n) (n ∷ []) []),
    at_most_one (test n) n,
    count_at_most n,
  )

  pub lowest_at_most : (k n : ℕ) → length (lowest k test n) ≤ n
  lowest_at_most k n = omega (arith, length-take k (members test n), count_at_most n)

  -- one more, which is taken where fewer than k were and it passes
  pub lowest_next : (k n : ℕ) (b : Bool) (was now : List ℕ) → was ≡ lowest k test n → b ≡ (ltb (length was) k && test n) → now ≡ was ++ cond b (n ∷ []) [] → now ≡ lowest k test (n + 1)
  lowest_next k n b was now e eb en =
      en ∙ ap (λ t. was ++ cond t (n ∷ []) []) eb ∙ ap (λ xs. xs ++ cond (ltb (length xs) k && test n) (n ∷ []) []) e
      ∙ sym (ap (take k) (members_more n) ∙ take_next k n (members test n) (test n))

-- the set of those that fail it
pub set_next_not : (test : ℕ → Bool) (n set next : ℕ) (b : Bool) → n < 16 → set ≡ set_of (λ x. not (test x)) n → b ≡ test n → (n < 16 → set < 2 ^ n → next ≡ set + cond (not b) (2 ^ n) 0) →
    next ≡ set_of (λ x. not (test x)) (n + 1)
set_next_not test n set next b few e t r = set_next (λ x. not (test x)) n set next (not b) few e (ap not t) r

-- Sums of weighted slices, bit by bit of the weights. Assumes nothing.
use Rattle.std.proofs.Common.{◌≡◌, ℕ, zero, suc, ◌+◌, ◌-◌, ◌*◌, ◌/◌, ◌%◌, ◌^◌, ◌<◌, ◌≤◌, min, Bool, cond, T, eqb, ltb, List, [], ◌∷◌, ◌++◌, map, length, get_or, drop, replicate, sym, refl, ap, ◌∙◌, subst, ⊎_elim, add-zero, mod-lt, mod-eq_of_lt, add_comm, zero-add, mul-one, div-one, add-one, arith, lit<, eqb→eq, le-ltb, lt-ltb}
use lib.Bits.{bit_xor, xor_lt, xor_zero_r, xor_assoc, xor_shifted}
use Rattle.std.specs.List.{range_with_len, flat_map}
use Rattle.std.proofs.lemmas.List.FromFn.{fill_by_all, get_or-map-range_with_len, length-map-range_with_len}
use Rattle.std.proofs.lemmas.Nat.{shr-shr, shr_le}
use Rattle.std.proofs.lemmas.Bool.{cases_lt}
use Rattle.std.proofs.lemmas.List.{length-take, get_or-drop, get_or_past, append-nil, drop_all, length-replicate, get_or-replicate}
use Rattle.base.specs.Bytes.{le_bytes, part, over, Bytes}
use Rattle.base.proofs.Placed.{same_map}
use Rattle.base.proofs.Places.{part_at, part_past, le_value_four}
use Rattle.algebra.specs.Fields.{code}
use Rattle.algebra.specs.Polynomials.{at, sum_to}
use Rattle.algebra.specs.Slices.{stored_at, combined_at, combined}
use Rattle.algebra.proofs.Tests.{below, below_at}
use Rattle.binary.specs.Binary.{sel, carryless, remainder, product}
use Rattle.binary.proofs.Bilinear.{Basis, product_lt, product-assoc, product_one}
use Rattle.binary.proofs.Field.{basis}
use Rattle.binary.proofs.Linear.{product-xor, xor-product, product-zero, zero-product, swapped}
use Rattle.gf256.specs.Gf256.{gf256}
use Rattle.gf256.specs.Slices.{added, bit_of, bit_sum, bits_added, doubled}
use Rattle.gf256.specs.Laws256.{undoing, passed}

abbrev m : ℕ → ℕ → ℕ
m = product 8 0x11d

abbrev tested : Basis 8 0x11d
tested = basis 8 0x11d undoing (lit< tt) passed

-- ---- lists by their places
pub own-map : (xs : List ℕ) → xs ≡ map (λ j. get_or xs j 0) (range_with_len 0 (length xs))
own-map xs = fill_by_all (λ j. get_or xs j 0) xs (length xs) 0 refl (λ k l. refl)

at_map : (f : ℕ → ℕ) (n j : ℕ) → j < n → get_or (map f (range_with_len 0 n)) j 0 ≡ f j
at_map f n j l = get_or-map-range_with_len f 0 n j j 0 l (zero-add j)

-- ---- the code's way to double, at each of the 256 codes
abbrev twice : ℕ → ℕ
twice a = cond (ltb a 128) (a * 2) (bit_xor ((a - 128) * 2) 0x1d)

doubles : ℕ → Bool
doubles a = eqb (twice a) (m a 2)

all_double : T (below 256 doubles)
unfolding doubles carryless remainder product
all_double = tt

pub twice_is : (a : ℕ) → a < 256 → twice a ≡ m a 2
unfolding doubles
twice_is a h = eqb→eq (twice a) (m a 2) (below_at 256 doubles all_double a h)

-- ---- adding slices
pub added-drop : (xs bs : List ℕ) (begin : ℕ) → added xs (drop begin bs) 0 ≡ added xs bs begin
unfolding added
added-drop xs bs begin =
    same_map _ _ (length xs) (λ j l. ap (bit_xor (get_or xs j 0)) (get_or-drop begin bs (0 + j) 0 ∙ ap (λ k. get_or bs (begin + k) 0) (zero-add j)))

pub added_past : (xs bs : List ℕ) (begin : ℕ) → length bs ≤ begin → xs ≡ added xs bs begin
unfolding added
added_past xs bs begin h = own-map xs ∙ same_map _ _ (length xs)
    (λ j l. sym (ap (bit_xor (get_or xs j 0)) (get_or_past bs (begin + j) 0 (omega arith)) ∙ xor_zero_r (get_or xs j 0)))

pub bits_none : (bit : ℕ) (xs ws bs : List ℕ) (stride : ℕ) → xs ≡ bits_added bit xs ws bs stride 0
unfolding bits_added bit_sum
bits_none bit xs ws bs stride = own-map xs ∙ same_map _ _ (length xs) (λ j l. sym (xor_zero_r (get_or xs j 0)))

length-bits : (bit : ℕ) (xs ws bs : List ℕ) (stride i : ℕ) → length (bits_added bit xs ws bs stride i) ≡ length xs
unfolding bits_added
length-bits bit xs ws bs stride i = length-map-range_with_len _ 0 (length xs)

-- a begin that is held at the largest number reads the same
held : (bs : List ℕ) (a n j : ℕ) → length bs ≤ n → get_or bs (min a n + j) 0 ≡ get_or bs (a + j) 0
held bs a n j h = ⊎_elim (λ l. let e : min a n ≡ a = omega arith in ap (λ b. get_or bs (b + j) 0) e)
    (λ l. let low : length bs ≤ min a n + j = omega arith in let high : length bs ≤ a + j = omega arith in get_or_past bs (min a n + j) 0 low ∙ sym (get_or_past bs (a + j) 0 high))
    (cases_lt a n)

module _ (bit : ℕ) (xs ws bs : List ℕ) (stride i : ℕ) where
  abbrev s : ℕ → ℕ
  s j = get_or bs (i * stride + j) 0

  -- one more slice, where the bit is 1
  pub bits_more : (now : List ℕ) (begin n : ℕ) → now ≡ bits_added bit xs ws bs stride i → length bs ≤ n → begin ≡ min (i * stride) n →
      bit_of (get_or ws i 0) bit ≡ 1 → added now bs begin ≡ bits_added bit xs ws bs stride (i + 1)
  unfolding bits_added added bit_sum
  bits_more now begin n e h eb one =
      let long : length now ≡ length xs = ap length e ∙ length-bits bit xs ws bs stride i in
      let reads : (j : ℕ) → get_or bs (begin + j) 0 ≡ s j = λ j. ap (λ b. get_or bs (b + j) 0) eb ∙ held bs (i * stride) n j h in
      ap (λ k. map (λ j. bit_xor (get_or now j 0) (get_or bs (begin + j) 0)) (range_with_len 0 k)) long
      ∙ same_map _ _ (length xs) (λ j l.
      ap (λ a. bit_xor a (get_or bs (begin + j) 0)) (ap (λ ys. get_or ys j 0) e ∙ at_map (λ j. bit_xor (get_or xs j 0) (bit_sum bit ws bs stride i j)) (length xs) j l)
      ∙ ap (bit_xor (bit_xor (get_or xs j 0) (bit_sum bit ws bs stride i j))) (reads j) ∙ xor_assoc (get_or xs j 0) (bit_sum bit ws bs stride i j) (s j)
      ∙ ap (λ a. bit_xor (get_or xs j 0) (bit_xor (bit_sum bit ws bs stride i j) a)) (sym (ap (λ b. sel b (s j)) one)) ∙ ap (λ k. bit_xor (get_or xs j 0) (bit_sum bit ws bs stride k j)) (sym (add-one i)))

  -- and none, where it is 0
  pub bits_same : (now : List ℕ) → now ≡ bits_added bit xs ws bs stride i → bit_of (get_or ws i 0) bit ≡ 0 → now ≡ bits_added bit xs ws bs stride (i + 1)
  unfolding bits_added bit_sum
  bits_same now e none =
      e ∙ same_map _ _ (length xs) (λ j l. ap (bit_xor (get_or xs j 0))
      (sym (xor_zero_r (bit_sum bit ws bs stride i j)) ∙ ap (bit_xor (bit_sum bit ws bs stride i j)) (sym (ap (λ b. sel b (s j)) none)) ∙ ap (λ k. bit_sum bit ws bs stride k j) (sym (add-one i))))

-- ---- one weight, from one bit to the next
weight_split : (c b : ℕ) → bit_xor (c / 2 ^ (b + 1) * 2) (c / 2 ^ b % 2) ≡ c / 2 ^ b
weight_split c b =
    let half : c / 2 ^ (b + 1) ≡ c / 2 ^ b / 2 = sym (shr-shr c b 1) in
    xor_shifted (c / 2 ^ (b + 1)) 1 (c / 2 ^ b % 2) (mod-lt (c / 2 ^ b) (lit< tt)) ∙ ap (λ h. h * 2 + c / 2 ^ b % 2) half ∙ omega arith

below_half : (c b : ℕ) → c < 256 → c / 2 ^ (b + 1) < 128
below_half c b h = omega (arith, ap (λ k. c / 2 ^ k) (add_comm b 1) ∙ sym (shr-shr c 1 b), shr_le (c / 2) b)

doubled-code : (h : ℕ) → h < 128 → h * 2 ≡ m h 2
doubled-code h l = sym (ap (λ t. cond t (h * 2) (bit_xor ((h - 128) * 2) 0x1d)) (lt-ltb h 128 l)) ∙ twice_is h (omega arith)

by_bit : (a bit : ℕ) → a < 256 → bit < 2 → m a bit ≡ sel bit a
by_bit a zero h l = product-zero 8 0x11d a
by_bit a (suc zero) h l = product_one 8 0x11d tested a h
by_bit a (suc (suc bit)) h l = absurd (omega arith)

one_weight : (a c b : ℕ) → a < 256 → c < 256 → m a (c / 2 ^ b) ≡ bit_xor (m (m a (c / 2 ^ (b + 1))) 2) (sel (c / 2 ^ b % 2) a)
one_weight a c b ha hc =
    let h = c / 2 ^ (b + 1) in
    let hh = below_half c b hc in
    ap (m a) (sym (weight_split c b)) ∙ product-xor 8 0x11d a (h * 2) (c / 2 ^ b % 2)
    ∙ ap (λ x. bit_xor x (m a (c / 2 ^ b % 2))) (ap (m a) (doubled-code h hh) ∙ sym (product-assoc 8 0x11d tested a h 2 ha (omega arith) (lit< tt)))
    ∙ ap (bit_xor (m (m a h) 2)) (by_bit a (c / 2 ^ b % 2) ha (mod-lt (c / 2 ^ b) (lit< tt)))

-- ---- the sums of all weights
-- the sum at place j of k slices, each times the bits of its weight from b on
unfoldable pub bits_from : List ℕ → List ℕ → ℕ → ℕ → ℕ → ℕ → ℕ
bits_from ws bs stride b zero j = 0
bits_from ws bs stride b (suc k) j = bit_xor (bits_from ws bs stride b k j) (m (get_or bs (k * stride + j) 0) (code 256 (get_or ws k 0) / 2 ^ b))

module _ (ws bs : List ℕ) (stride : ℕ) (bytes : Bytes bs) where
  abbrev from : ℕ → ℕ → ℕ → ℕ
  from = bits_from ws bs stride

  code_lt : (a : ℕ) → code 256 a < 256
  code_lt a = grind (arith, lt-ltb, le-ltb)

  code_of : (a : ℕ) → a < 256 → code 256 a ≡ a
  code_of a h = ap (λ t. cond t a 0) (lt-ltb a 256 h)

  pub bits_step : (b k j : ℕ) → from b k j ≡ bit_xor (m (from (b + 1) k j) 2) (bit_sum b ws bs stride k j)
  unfolding bits_from bit_sum
  bits_step b zero j = sym (ap (λ x. bit_xor x 0) (zero-product 8 0x11d 2))
  bits_step b (suc k) j =
      let a = get_or bs (k * stride + j) 0 in
      let c = code 256 (get_or ws k 0) in
      let t = from (b + 1) k j in
      let u = bit_sum b ws bs stride k j in
      ap (λ x. bit_xor x (m a (c / 2 ^ b))) (bits_step b k j)
      ∙ ap (bit_xor (bit_xor (m t 2) u)) (one_weight a c b (bytes (k * stride + j)) (code_lt (get_or ws k 0)))
      ∙ swapped (m t 2) u (m (m a (c / 2 ^ (b + 1))) 2) (sel (c / 2 ^ b % 2) a)
      ∙ ap (λ x. bit_xor x (bit_xor u (sel (c / 2 ^ b % 2) a))) (sym (xor-product 8 0x11d t (m a (c / 2 ^ (b + 1))) 2))

  pub bits_top : (k j : ℕ) → from 8 k j ≡ 0
  unfolding bits_from
  bits_top zero j = refl
  bits_top (suc k) j =
      let none : code 256 (get_or ws k 0) / 256 ≡ 0 = omega (arith, code_lt (get_or ws k 0)) in
      ap (λ x. bit_xor x (m (get_or bs (k * stride + j) 0) (code 256 (get_or ws k 0) / 256))) (bits_top k j)
      ∙ ap (λ x. bit_xor 0 (m (get_or bs (k * stride + j) 0) x)) none ∙ ap (bit_xor 0) (product-zero 8 0x11d (get_or bs (k * stride + j) 0))

  stored_one : (place : ℕ) → stored_at 1 bs place ≡ get_or bs place 0
  stored_one place =
      let few : length (part bs place 1) ≤ 4 = rw length-take (omega arith) in
      le_value_four (part bs place 1) few
      ∙ ap (λ x. x + get_or (part bs place 1) 1 0 * 256 + get_or (part bs place 1) 2 0 * 65536 + get_or (part bs place 1) 3 0 * 16777216) (part_at bs place 1 0 (lit< tt) ∙ ap (λ k. get_or bs k 0) (add-zero place))
      ∙ omega (arith, part_past bs place 1 1 (omega arith), part_past bs place 1 2 (omega arith), part_past bs place 1 3 (omega arith))

  bits-lt : (b k j : ℕ) → from b k j < 256
  unfolding bits_from
  bits-lt b zero j = lit< tt
  bits-lt b (suc k) j =
      let low : code 256 (get_or ws k 0) / 2 ^ b < 256 = omega (arith, code_lt (get_or ws k 0), shr_le (code 256 (get_or ws k 0)) b) in
      xor_lt 8 (from b k j) _ (bits-lt b k j) (product_lt 8 0x11d tested (get_or bs (k * stride + j) 0) (code 256 (get_or ws k 0) / 2 ^ b) (bytes (k * stride + j)) low)

  -- all bits of all weights
  bits_all : (k j : ℕ) → from 0 k j ≡ sum_to gf256 k (λ i. gf256.mul (stored_at 1 bs (i * stride + j)) (at ws i))
  unfolding bits_from
  bits_all zero j = refl
  bits_all (suc k) j =
      let a = get_or bs (k * stride + j) 0 in
      let c = code 256 (get_or ws k 0) in
      let term : m a (c / 1) ≡ gf256.mul (stored_at 1 bs (k * stride + j)) (at ws k) =
      ap (m a) (div-one c) ∙ ap (λ x. m x c) (sym (ap (code 256) (stored_one (k * stride + j)) ∙ code_of a (bytes (k * stride + j)))) in
      let small : m a (c / 1) < 256 = subst (λ x. m a x < 256) (sym (div-one c)) (product_lt 8 0x11d tested a c (bytes (k * stride + j)) (code_lt (get_or ws k 0))) in
      sym (ap (λ x. bit_xor x (m a (c / 1))) (code_of (from 0 k j) (bits-lt 0 k j))) ∙ ap (bit_xor (code 256 (from 0 k j))) (sym (code_of (m a (c / 1)) small))
      ∙ ap (λ x. bit_xor (code 256 x) (code 256 (m a (c / 1)))) (bits_all k j)
      ∙ ap (λ x. bit_xor (code 256 (sum_to gf256 k (λ i. gf256.mul (stored_at 1 bs (i * stride + j)) (at ws i)))) (code 256 x)) term

  joined_one : (f : ℕ → ℕ) (xs : List ℕ) → flat_map (λ j. f j ∷ []) xs ≡ map f xs
  joined_one f [] = refl
  joined_one f (x ∷ xs) = ap (λ ys. f x ∷ ys) (joined_one f xs)

  joined_same : (f g : ℕ → List ℕ) (xs : List ℕ) → ((j : ℕ) → f j ≡ g j) → flat_map f xs ≡ flat_map g xs
  joined_same f g [] h = refl
  joined_same f g (x ∷ xs) h = ap (λ ys. ys ++ flat_map f xs) (h x) ∙ ap (λ ys. g x ++ ys) (joined_same f g xs h)

  pub combined-bits : (was now : List ℕ) → now ≡ map (from 0 (length ws)) (range_with_len 0 (length was)) → now ≡ over (combined gf256 1 ws bs stride (length was / 1)) was
  unfolding combined combined_at
  combined-bits was now e =
      let k = length ws in
      let n = length was in
      let own : (j : ℕ) → le_bytes 1 (combined_at gf256 1 ws bs stride (j * 1)) ≡ from 0 k j ∷ [] = λ j.
      let low : from 0 k j % 256 ≡ from 0 k j = mod-eq_of_lt (bits-lt 0 k j) in
      ap (λ p. combined_at gf256 1 ws bs stride p % 256 ∷ []) (mul-one j) ∙ ap (λ x. x % 256 ∷ []) (sym (bits_all k j)) ∙ ap (λ x. x ∷ []) low in
      let same : flat_map (λ j. le_bytes 1 (combined_at gf256 1 ws bs stride (j * 1))) (range_with_len 0 n) ≡ now =
      joined_same _ _ (range_with_len 0 n) own ∙ joined_one (from 0 k) (range_with_len 0 n) ∙ sym e in
      let long : n ≤ length now = omega (arith, ap length e ∙ length-map-range_with_len (from 0 k) 0 n) in
      sym (append-nil now) ∙ ap (λ ys. now ++ ys) (sym (drop_all (length now) was long)) ∙ ap (λ ys. over ys was) (sym same)
      ∙ ap (λ i. over (flat_map (λ j. le_bytes 1 (combined_at gf256 1 ws bs stride (j * 1))) (range_with_len 0 i)) was) (sym (div-one n))

  -- one bit's turn: doubled, and the slices added
  pub bits_turn : (was now : List ℕ) (b : ℕ) → now ≡ map (from (b + 1) (length ws)) (range_with_len 0 (length was)) →
      bits_added b (doubled now) ws bs stride (length ws) ≡ map (from b (length ws)) (range_with_len 0 (length was))
  unfolding bits_added doubled
  bits_turn was now b e =
      let k = length ws in
      let n = length was in
      let long : length now ≡ n = ap length e ∙ length-map-range_with_len (from (b + 1) k) 0 n in
      let twofold : ℕ → ℕ = λ j. m (get_or now j 0) 2 in
      ap (λ i. map (λ j. bit_xor (get_or (doubled now) j 0) (bit_sum b ws bs stride k j)) (range_with_len 0 i)) (length-map-range_with_len twofold 0 (length now) ∙ long)
      ∙ same_map _ _ n (λ j l.
      ap (λ x. bit_xor x (bit_sum b ws bs stride k j)) (at_map twofold (length now) j (subst (λ i. j < i) (sym long) l)
      ∙ ap (λ x. m x 2) (ap (λ ys. get_or ys j 0) e ∙ at_map (from (b + 1) k) n j l))
      ∙ sym (bits_step b k j))

  -- before the first bit all is 0
  pub bits_start : (n : ℕ) → replicate n 0 ≡ map (from 8 (length ws)) (range_with_len 0 n)
  bits_start n = fill_by_all (from 8 (length ws)) (replicate n 0) n 0 (length-replicate n 0) (λ j l. get_or-replicate n j 0 0 l ∙ sym (bits_top (length ws) j))

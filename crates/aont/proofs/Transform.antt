-- Masks and bound keys: each undoes itself, block by block. Assumes nothing.
use Rattle.std.proofs.Common.{◌≡◌, ℕ, ◌+◌, ◌-◌, ◌*◌, ◌/◌, ◌<◌, ◌≤◌, List, [], ◌∷◌, ◌++◌, length, take, drop, fold, sym, refl, ap, ◌∙◌, ⊎_elim, arith, lit<}
use Rattle.std.specs.List.{range_with_len, flat_map}
use Rattle.std.proofs.lemmas.List.FromFn.{get_or-range_with_len}
use Rattle.std.proofs.lemmas.List.{append-nil, drop_all, get_or_past, take_all}
use Rattle.std.proofs.lemmas.Bool.{cases_lt}
use Rattle.base.specs.Bytes.{Bytes}
use Rattle.base.proofs.Little.{Bytes-le_bytes, length-le_bytes}
use Rattle.cipher.specs.Blocks.{Block, CipherLaws, xor}
use Rattle.cipher.proofs.Xor.{length-xor, xor_back, xor_block, xor_regroup, xor-swap}
use Rattle.aont.specs.Package.{block, number_block, masked, bound}
use Rattle.base.proofs.Parts.{Bytes-append, Bytes-drop, Bytes-take}
use Rattle.aont.proofs.Steps.{block_at, block_joined, block_more, blocks_all, folded_next, length_block, length-joined, rest, same_blocks}

pub number_block_is : (i : ℕ) → Block (number_block i)
unfolding number_block
number_block_is i = (length-le_bytes 16 i, Bytes-le_bytes 16 i)

pub Bytes-block : (i : ℕ) (bs : List ℕ) → Bytes bs → Bytes (block i bs)
unfolding block
Bytes-block i bs h = Bytes-take 16 (drop (16 * (i - 1)) bs) (Bytes-drop (16 * (i - 1)) bs h)

first_key_is : Block (range_with_len 0 16)
first_key_is = (
  refl,
  λ i. ⊎_elim
      (λ l. let e = get_or-range_with_len 0 16 i 0 l in omega arith)
      (λ m. rw (get_or_past (range_with_len 0 16) i 0 m) (lit< tt))
      (cases_lt i 16),
)

Bytes-joined : (f : ℕ → List ℕ) → ((i : ℕ) → Bytes (f i)) → (xs : List ℕ) → Bytes (flat_map f xs)
Bytes-joined f h [] i = lit< tt
Bytes-joined f h (x ∷ xs) i = Bytes-append (f x) (flat_map f xs) (h x) (Bytes-joined f h xs) i

-- a fold of exclusive ors, whatever is folded in
module _ (h : ℕ → List ℕ) where
  abbrev summed : List ℕ → List ℕ → List ℕ
  summed a xs = fold (λ sum i. xor sum (h i)) a xs

  summed_shift : (a b : List ℕ) (xs : List ℕ) → summed (xor a b) xs ≡ xor (summed a xs) b
  summed_shift a b [] = refl
  summed_shift a b (x ∷ xs) =
      ap (λ s. summed s xs) (xor_regroup a b (h x) ∙ ap (xor a) (xor-swap b (h x)) ∙ sym (xor_regroup a (h x) b)) ∙ summed_shift (xor a (h x)) b xs

  length-summed : (a : List ℕ) (xs : List ℕ) → length a ≡ 16 → length (summed a xs) ≡ 16
  length-summed a [] l = l
  length-summed a (x ∷ xs) l = length-summed (xor a (h x)) xs (length-xor a (h x))

  summed_block : ((i : ℕ) → Bytes (h i)) → (a : List ℕ) (xs : List ℕ) → Block a → Block (summed a xs)
  summed_block w a [] b = b
  summed_block w a (x ∷ xs) b = summed_block w (xor a (h x)) xs (xor_block a (h x) b.1 (w x))

  summed_back : (a : List ℕ) (xs : List ℕ) → length a ≡ 16 → summed (summed a xs) xs ≡ a
  summed_back a [] l = refl
  summed_back a (x ∷ xs) l =
      ap (λ s. summed (xor s (h x)) xs) (summed_shift a (h x) xs)
      ∙ ap (λ s. summed s xs) (xor_back (summed a xs) (h x) (length-summed a xs l)) ∙ summed_back a xs l

module _ (E : List ℕ → List ℕ → List ℕ) where
  -- the first n blocks masked, and the key bound to them: what a loop has after n turns
  abbrev pub masked_upto : List ℕ → ℕ → List ℕ → List ℕ
  masked_upto key n ms = flat_map (λ i. xor (block i ms) (E key (number_block i))) (range_with_len 1 n)

  abbrev pub bound_upto : List ℕ → ℕ → List ℕ → List ℕ
  bound_upto key n ms = fold (λ sum i. xor sum (E (range_with_len 0 16) (xor (block i ms) (number_block i)))) key (range_with_len 1 n)

  pub masked_is : (key ms : List ℕ) (n : ℕ) → length ms / 16 ≡ n → masked E key ms ≡ masked_upto key n ms
  unfolding masked
  masked_is key ms n e = ap (λ k. masked_upto key k ms) e

  pub bound_is : (key ms : List ℕ) (n : ℕ) → length ms / 16 ≡ n → bound E key ms ≡ bound_upto key n ms
  unfolding bound
  bound_is key ms n e = ap (λ k. bound_upto key k ms) e

  pub length-bound : (key ms : List ℕ) → length key ≡ 16 → length (bound E key ms) ≡ 16
  unfolding bound
  length-bound key ms l = length-summed (λ i. E (range_with_len 0 16) (xor (block i ms) (number_block i))) key (range_with_len 1 (length ms / 16)) l

  pub bound_back : (key ms : List ℕ) → length key ≡ 16 → bound E (bound E key ms) ms ≡ key
  unfolding bound
  bound_back key ms l = summed_back (λ i. E (range_with_len 0 16) (xor (block i ms) (number_block i))) key (range_with_len 1 (length ms / 16)) l

  module _ (key ms : List ℕ) (n : ℕ) (whole : length ms ≡ 16 * n) where
    wide : (i : ℕ) → length (xor (block i ms) (E key (number_block i))) ≡ 16
    wide i = length-xor (block i ms) (E key (number_block i))

    count : length ms / 16 ≡ n
    count = omega arith

    pub length-masked : length (masked E key ms) ≡ 16 * n
    length-masked = ap length (masked_is key ms n count) ∙ length-joined (λ i. xor (block i ms) (E key (number_block i))) wide n

    pub block_masked : (j : ℕ) → j < n → block (j + 1) (masked E key ms) ≡ xor (block (j + 1) ms) (E key (number_block (j + 1)))
    block_masked j l =
        ap (block (j + 1)) (masked_is key ms n count) ∙ block_joined (λ i. xor (block i ms) (E key (number_block i))) wide n j l

  pub masked_back : (key ms : List ℕ) (n : ℕ) → length ms ≡ 16 * n → masked E key (masked E key ms) ≡ ms
  masked_back key ms n whole =
      let ns = masked E key ms in
      let len : length ns ≡ 16 * n = length-masked key ms n whole in
      let enough : length ms ≤ 16 * n = omega arith in
      masked_is key ns n (omega arith)
      ∙ same_blocks (λ i. xor (block i ns) (E key (number_block i))) (λ i. block i ms) n
      (λ j l.
      let inside : 16 * j + 16 ≤ length ms = omega arith in
      ap (λ z. xor z (E key (number_block (j + 1)))) (block_masked key ms n whole j l)
      ∙ xor_back (block (j + 1) ms) (E key (number_block (j + 1))) (length_block ms j inside))
      ∙ blocks_all ms n ∙ take_all (16 * n) ms enough

  -- one turn of the loop that masks, and its end
  pub mask_next : (key s0 s new s1 : List ℕ) (i : ℕ) → s ≡ masked_upto key i s0 ++ drop (16 * i) s0
      → new ≡ xor (block (i + 1) s) (E key (number_block (i + 1)))
      → s1 ≡ take (16 * i) s ++ (new ++ drop (16 * i + length new) s)
      → s1 ≡ masked_upto key (i + 1) s0 ++ drop (16 * (i + 1)) s0
  mask_next key s0 s new s1 i inv e put =
      let f : ℕ → List ℕ = λ j. xor (block j s0) (E key (number_block j)) in
      let wide : (j : ℕ) → length (f j) ≡ 16 = λ j. length-xor (block j s0) (E key (number_block j)) in
      let same : block (i + 1) s ≡ block (i + 1) s0 = sym (block_at s i) ∙ ap (take 16) (rest f wide s0 s i inv) ∙ block_at s0 i in
      let next : new ≡ f (i + 1) = e ∙ ap (λ z. xor z (E key (number_block (i + 1)))) same in
      let size : length new ≡ 16 = ap length next ∙ wide (i + 1) in
      put ∙ ap (λ n. take (16 * i) s ++ (new ++ drop (16 * i + n) s)) size ∙ block_more f wide s0 s new i inv next

  pub mask_all : (key s0 s : List ℕ) (i : ℕ) → length s0 ≡ 16 * i → s ≡ masked_upto key i s0 ++ drop (16 * i) s0 → s ≡ masked E key s0
  mask_all key s0 s i whole inv =
      inv ∙ ap (λ z. masked_upto key i s0 ++ z) (drop_all (16 * i) s0 (omega arith)) ∙ append-nil (masked_upto key i s0)
      ∙ sym (masked_is key s0 i (omega arith))

  -- one turn of the loop that binds, and its end
  pub bind_next : (key ms first hash sum sum1 : List ℕ) (i : ℕ) → first ≡ range_with_len 0 16 → sum ≡ bound_upto key i ms
      → hash ≡ E first (xor (block (i + 1) ms) (number_block (i + 1))) → sum1 ≡ xor sum hash → sum1 ≡ bound_upto key (i + 1) ms
  bind_next key ms first hash sum sum1 i ef inv eh e =
      let h : ℕ → List ℕ = λ j. E (range_with_len 0 16) (xor (block j ms) (number_block j)) in
      let under : hash ≡ h (i + 1) = eh ∙ ap (λ k. E k (xor (block (i + 1) ms) (number_block (i + 1)))) ef in
      e ∙ ap (λ z. xor z hash) inv ∙ ap (xor (bound_upto key i ms)) under ∙ sym (folded_next (λ s j. xor s (h j)) key i)

  pub bind_all : (key ms sum : List ℕ) (i : ℕ) → length ms / 16 ≡ i → sum ≡ bound_upto key i ms → sum ≡ bound E key ms
  bind_all key ms sum i count inv = inv ∙ sym (bound_is key ms i count)

module _ (E : List ℕ → List ℕ → List ℕ) (number : ℕ) (laws : CipherLaws number E) (key ms : List ℕ) (k : Block key) (m : Bytes ms) where
  pub Bytes-masked : Bytes (masked E key ms)
  unfolding masked
  Bytes-masked =
      Bytes-joined (λ i. xor (block i ms) (E key (number_block i)))
      (λ i. (xor_block (block i ms) (E key (number_block i)) (Bytes-block i ms m) (laws.blocks key (number_block i) k (number_block_is i)).1).1)
      (range_with_len 1 (length ms / 16))

  pub bound_block : Block (bound E key ms)
  unfolding bound
  bound_block =
      summed_block (λ i. E (range_with_len 0 16) (xor (block i ms) (number_block i)))
      (λ i.
      let mixed : Block (xor (block i ms) (number_block i)) = xor_block (block i ms) (number_block i) (Bytes-block i ms m) (number_block_is i).1 in
      (laws.blocks (range_with_len 0 16) (xor (block i ms) (number_block i)) first_key_is mixed).1)
      key (range_with_len 1 (length ms / 16)) k

-- Lists joined or folded block by block: the steps of a loop, and each block of what is joined. Assumes nothing.
use Rattle.std.proofs.Common.{◌≡◌, ℕ, zero, suc, ◌+◌, ◌-◌, ◌*◌, ◌<◌, ◌≤◌, List, [], ◌∷◌, ◌++◌, length, take, drop, fold, sym, refl, ap, ◌∙◌, ⊎_elim, add-one, arith}
use Rattle.std.specs.List.{range_with_len, flat_map}
use Rattle.std.proofs.lemmas.List.FromFn.{map-range_with_len_more}
use Rattle.std.proofs.lemmas.List.{append_assoc, drop-append-le, drop_at, drop-drop, flat_map_more, length-append, length-drop, length-take-le, map-id, take_all, take-append-le, take_at}
use Rattle.std.proofs.lemmas.List.Sums.{fold_push}
use Rattle.std.proofs.lemmas.Bool.{cases_lt}
use Rattle.base.specs.Bytes.{part}
use Rattle.aont.specs.Package.{block}
use Rattle.base.proofs.Parts.{take-add}

counting_next : (n : ℕ) → range_with_len 1 (n + 1) ≡ range_with_len 1 n ++ (n + 1) ∷ []
counting_next n =
    sym (map-id (range_with_len 1 (n + 1))) ∙ map-range_with_len_more (λ x. x) 1 n (n + 1) (omega arith) ∙ ap (λ z. z ++ (n + 1) ∷ []) (map-id (range_with_len 1 n))

pub folded_next : {A : Type 0} (f : A → ℕ → A) (a : A) (n : ℕ) → fold f a (range_with_len 1 (n + 1)) ≡ f (fold f a (range_with_len 1 n)) (n + 1)
folded_next f a n = ap (fold f a) (counting_next n) ∙ fold_push f a (range_with_len 1 n) (n + 1)

pub joined_next : (f : ℕ → List ℕ) (n : ℕ) → flat_map f (range_with_len 1 (n + 1)) ≡ flat_map f (range_with_len 1 n) ++ f (n + 1)
joined_next f n = ap (flat_map f) (counting_next n) ∙ sym (flat_map_more f [] (range_with_len 1 n) (n + 1))

-- what the code reads at 16 * i is block i + 1
pub block_at : (bs : List ℕ) (i : ℕ) → part bs (16 * i) 16 ≡ block (i + 1) bs
unfolding block
block_at bs i = let e : 16 * i ≡ 16 * (i + 1 - 1) = omega arith in ap (λ m. part bs m 16) e

pub length_block : (bs : List ℕ) (i : ℕ) → 16 * i + 16 ≤ length bs → length (block (i + 1) bs) ≡ 16
length_block bs i h =
    let b : 16 ≤ length (drop (16 * i) bs) = omega (arith, length-drop (16 * i) bs) in
    ap length (sym (block_at bs i)) ∙ length-take-le 16 (drop (16 * i) bs) b

-- the last block
pub block_end : (bs : List ℕ) (i at : ℕ) → 16 * i ≡ at → length bs ≤ at + 16 → block (i + 1) bs ≡ drop at bs
block_end bs i at e h =
    let rest : length (drop at bs) ≤ 16 = omega (arith, length-drop at bs) in
    sym (block_at bs i) ∙ ap (λ a. part bs a 16) e ∙ take_all 16 (drop at bs) rest

-- the blocks of a list, joined, are the list
pub blocks_all : (bs : List ℕ) (n : ℕ) → flat_map (λ i. block i bs) (range_with_len 1 n) ≡ take (16 * n) bs
blocks_all bs zero = refl
blocks_all bs (suc n) =
    let next : 16 * n + 16 ≡ 16 * suc n = omega arith in
    ap (λ m. flat_map (λ i. block i bs) (range_with_len 1 m)) (sym (add-one n)) ∙ joined_next (λ i. block i bs) n
    ∙ ap (λ z. z ++ block (n + 1) bs) (blocks_all bs n) ∙ ap (λ z. take (16 * n) bs ++ z) (sym (block_at bs n))
    ∙ sym (take-add (16 * n) 16 bs) ∙ ap (λ m. take m bs) next

pub same_blocks : (f g : ℕ → List ℕ) (n : ℕ) → ((j : ℕ) → j < n → f (j + 1) ≡ g (j + 1)) → flat_map f (range_with_len 1 n) ≡ flat_map g (range_with_len 1 n)
same_blocks f g zero h = refl
same_blocks f g (suc n) h =
    let l : n < suc n = omega arith in
    ap (λ m. flat_map f (range_with_len 1 m)) (sym (add-one n)) ∙ joined_next f n
    ∙ ap (λ z. z ++ f (n + 1)) (same_blocks f g n (λ j m. h j (omega arith))) ∙ ap (λ z. flat_map g (range_with_len 1 n) ++ z) (h n l)
    ∙ sym (joined_next g n) ∙ ap (λ m. flat_map g (range_with_len 1 m)) (add-one n)

module _ (f : ℕ → List ℕ) (wide : (i : ℕ) → length (f i) ≡ 16) where
  pub length-joined : (n : ℕ) → length (flat_map f (range_with_len 1 n)) ≡ 16 * n
  length-joined zero = refl
  length-joined (suc n) =
      ap (λ m. length (flat_map f (range_with_len 1 m))) (sym (add-one n)) ∙ ap length (joined_next f n) ∙ length-append (flat_map f (range_with_len 1 n)) (f (n + 1))
      ∙ omega (arith, length-joined n, wide (n + 1))

  -- what a loop has not reached yet is as it was
  pub rest : (s0 s : List ℕ) (i : ℕ) → s ≡ flat_map f (range_with_len 1 i) ++ drop (16 * i) s0 → drop (16 * i) s ≡ drop (16 * i) s0
  rest s0 s i e = ap (drop (16 * i)) e ∙ drop_at (flat_map f (range_with_len 1 i)) (drop (16 * i) s0) (16 * i) (length-joined i)

  -- one block more
  pub block_more : (s0 s v : List ℕ) (i : ℕ) → s ≡ flat_map f (range_with_len 1 i) ++ drop (16 * i) s0 → v ≡ f (i + 1)
      → take (16 * i) s ++ (v ++ drop (16 * i + 16) s) ≡ flat_map f (range_with_len 1 (i + 1)) ++ drop (16 * (i + 1)) s0
  block_more s0 s v i e ev =
      let l = flat_map f (range_with_len 1 i) in
      let front : take (16 * i) s ≡ l = ap (take (16 * i)) e ∙ take_at l (drop (16 * i) s0) (16 * i) (length-joined i) in
      let next : 16 * i + 16 ≡ 16 * (i + 1) = omega arith in
      let back : drop (16 * i + 16) s ≡ drop (16 * (i + 1)) s0 =
      sym (drop-drop 16 (16 * i) s) ∙ ap (drop 16) (rest s0 s i e) ∙ drop-drop 16 (16 * i) s0 ∙ ap (λ m. drop m s0) next in
      rw (front, back, ev, joined_next f i, append_assoc)

  pub block_joined : (n j : ℕ) → j < n → block (j + 1) (flat_map f (range_with_len 1 n)) ≡ f (j + 1)
  block_joined zero j h = absurd (omega arith)
  block_joined (suc n) j h =
      let l = flat_map f (range_with_len 1 n) in
      let len : length l ≡ 16 * n = length-joined n in
      let opened = sym (block_at (flat_map f (range_with_len 1 (suc n))) j)
      ∙ ap (λ z. part z (16 * j) 16) (ap (λ m. flat_map f (range_with_len 1 m)) (sym (add-one n)) ∙ joined_next f n) in
      ⊎_elim
      (λ m.
      let a : 16 * j ≤ length l = omega arith in
      let b : 16 ≤ length (drop (16 * j) l) = omega (arith, length-drop (16 * j) l) in
      opened ∙ ap (take 16) (drop-append-le (16 * j) l (f (n + 1)) a) ∙ take-append-le 16 (drop (16 * j) l) (f (n + 1)) b ∙ block_at l j
      ∙ block_joined n j m)
      (λ m.
      let e : n ≡ j = omega arith in
      let a : length l ≡ 16 * j = omega arith in
      let b : length (f (n + 1)) ≤ 16 = omega (arith, wide (n + 1)) in
      opened ∙ ap (take 16) (drop_at l (f (n + 1)) (16 * j) a) ∙ take_all 16 (f (n + 1)) b ∙ ap (λ i. f (i + 1)) e)
      (cases_lt j n)

-- A buffer that is overwritten piece by piece, all pieces of one width. Assumes nothing.
use Rattle.std.proofs.Common.{◌≡◌, ℕ, zero, suc, ◌+◌, ◌-◌, ◌*◌, ◌/◌, ◌<◌, ◌≤◌, cond, leb, List, [], ◌∷◌, ◌++◌, length, take, drop, sym, refl, ap, ◌∙◌, subst, ⊎_elim, mul-le-mul_right, add-mul, one-mul, zero-add, zero-mul, div-mul-le_self, add-one, arith, lit<, le-leb}
use borrow.Rule.Slice.PartMut.{put_mid}
use Rattle.std.specs.List.{range_with_len, flat_map}
use Rattle.std.proofs.lemmas.List.{append_assoc, append-nil, length-append, take_at, drop_at, drop_all, drop-drop, drop-take, take-take, take_all, flat_map_more, map-id}
use Rattle.std.proofs.lemmas.List.FromFn.{map-range_with_len_more}
use Rattle.std.proofs.lemmas.Bool.{cases_lt}
use Rattle.base.specs.Bytes.{Bytes, le_bytes, le_value, part, over, written}
use Rattle.base.proofs.Little.{length-le_bytes, le_bytes-le_value, Bytes-le_bytes}
use Rattle.base.proofs.Parts.{take-add, Bytes-append, Bytes-part, length_part}

pub counting_more : (a n : ℕ) → range_with_len a (n + 1) ≡ range_with_len a n ++ (a + n) ∷ []
counting_more a n =
    sym (map-id (range_with_len a (n + 1))) ∙ map-range_with_len_more (λ x. x) a n (a + n) refl ∙ ap (λ z. z ++ (a + n) ∷ []) (map-id (range_with_len a n))

-- a buffer that is overwritten whole
pub over_whole : (bs buffer : List ℕ) → length buffer ≤ length bs → over bs buffer ≡ bs
over_whole bs buffer h = ap (λ xs. bs ++ xs) (drop_all (length bs) buffer h) ∙ append-nil bs

-- a write to a part of a buffer
pub put_part : (now bs : List ℕ) (a k : ℕ) → length bs ≡ k → put_mid a k now bs ≡ written now a bs
put_part now bs a k e = ap (λ xs. take a now ++ (bs ++ xs)) (drop-drop k a now ∙ ap (λ m. drop (a + m) now) (sym e))

pub pieces_more : (g : ℕ → List ℕ) (n : ℕ) → flat_map g (range_with_len 0 (n + 1)) ≡ flat_map g (range_with_len 0 n) ++ g n
pieces_more g n =
    ap (flat_map g) (counting_more 0 n ∙ ap (λ m. range_with_len 0 n ++ m ∷ []) (zero-add n)) ∙ sym (flat_map_more g [] (range_with_len 0 n) n)

module _ (g : ℕ → List ℕ) (v : ℕ) (wide : (j : ℕ) → length (g j) ≡ v) where
  pub length_pieces : (n : ℕ) → length (flat_map g (range_with_len 0 n)) ≡ n * v
  length_pieces zero = sym (zero-mul v)
  length_pieces (suc n) =
      ap (λ m. length (flat_map g (range_with_len 0 m))) (sym (add-one n)) ∙ ap length (pieces_more g n) ∙ length-append (flat_map g (range_with_len 0 n)) (g n)
      ∙ ap (λ m. m + length (g n)) (length_pieces n) ∙ ap (λ m. n * v + m) (wide n ∙ sym (one-mul v)) ∙ sym (add-mul n 1 v) ∙ ap (λ m. m * v) (add-one n)

  -- one more piece
  pub put_piece : (was now bs : List ℕ) (j : ℕ) → now ≡ flat_map g (range_with_len 0 j) ++ drop (j * v) was → bs ≡ g j →
      written now (j * v) bs ≡ flat_map g (range_with_len 0 (j + 1)) ++ drop ((j + 1) * v) was
  put_piece was now bs j e eb =
      let front = flat_map g (range_with_len 0 j) in
      let long = length_pieces j in
      let end : j * v + length bs ≡ (j + 1) * v = ap (λ m. j * v + m) (ap length eb ∙ wide j ∙ sym (one-mul v)) ∙ sym (add-mul j 1 v) in
      let back : drop (j * v + length bs) now ≡ drop ((j + 1) * v) was =
      ap (λ xs. drop (j * v + length bs) xs) e ∙ sym (drop-drop (length bs) (j * v) (front ++ drop (j * v) was))
      ∙ ap (drop (length bs)) (drop_at front (drop (j * v) was) (j * v) long) ∙ drop-drop (length bs) (j * v) was ∙ ap (λ m. drop m was) end in
      ap (λ xs. xs ++ (bs ++ drop (j * v + length bs) now)) (ap (take (j * v)) e ∙ take_at front (drop (j * v) was) (j * v) long)
      ∙ ap (λ xs. front ++ (bs ++ xs)) back ∙ ap (λ xs. front ++ (xs ++ drop ((j + 1) * v) was)) eb
      ∙ sym (append_assoc front (g j) (drop ((j + 1) * v) was)) ∙ ap (λ xs. xs ++ drop ((j + 1) * v) was) (sym (pieces_more g j))

  -- all pieces
  pub put_pieces : (was now : List ℕ) (n : ℕ) → now ≡ flat_map g (range_with_len 0 n) ++ drop (n * v) was → now ≡ over (flat_map g (range_with_len 0 n)) was
  put_pieces was now n e = e ∙ ap (λ m. flat_map g (range_with_len 0 n) ++ drop m was) (sym (length_pieces n))

  -- each piece can be read again, whatever follows
  pub piece_at : (n j : ℕ) (rest : List ℕ) → j < n → part (flat_map g (range_with_len 0 n) ++ rest) (j * v) v ≡ g j
  piece_at zero j rest h = absurd (omega arith)
  piece_at (suc n) j rest h =
      let front = flat_map g (range_with_len 0 n) in
      let split : flat_map g (range_with_len 0 (suc n)) ++ rest ≡ front ++ (g n ++ rest) =
      ap (λ m. flat_map g (range_with_len 0 m) ++ rest) (sym (add-one n)) ∙ ap (λ xs. xs ++ rest) (pieces_more g n) ∙ append_assoc front (g n) rest in
      ap (λ xs. part xs (j * v) v) split
      ∙ ⊎_elim (λ l. piece_at n j (g n ++ rest) l)
      (λ l.
      let same : n ≡ j = omega arith in
      let long : length front ≡ j * v = length_pieces n ∙ ap (λ m. m * v) same in
      ap (take v) (drop_at front (g n ++ rest) (j * v) long) ∙ take_at (g n) rest v (wide n) ∙ ap g same) (cases_lt j n)

-- pieces that are the same below n are the same together
pub pieces_same : (g h : ℕ → List ℕ) (n : ℕ) → ((j : ℕ) → j < n → g j ≡ h j) → flat_map g (range_with_len 0 n) ≡ flat_map h (range_with_len 0 n)
pieces_same g h zero e = refl
pieces_same g h (suc n) e =
    let step : (f : ℕ → List ℕ) → flat_map f (range_with_len 0 (suc n)) ≡ flat_map f (range_with_len 0 n) ++ f n = λ f. ap (λ m. flat_map f (range_with_len 0 m)) (sym (add-one n)) ∙ pieces_more f n in
    step g ∙ ap (λ xs. xs ++ g n) (pieces_same g h n (λ j l. e j (omega arith))) ∙ ap (λ xs. flat_map h (range_with_len 0 n) ++ xs) (e n (omega arith)) ∙ sym (step h)

-- a part of a part
pub part_part : (bs : List ℕ) (a b n v : ℕ) → b + v ≤ n → part (part bs a n) b v ≡ part bs (a + b) v
part_part bs a b n v h =
    let split : n ≡ b + (n - b) = omega arith in
    let le : v ≤ n - b = omega arith in
    ap (λ m. take v (drop b (take m (drop a bs)))) split ∙ ap (take v) (drop-take b (n - b) (drop a bs)) ∙ take-take v (n - b) (drop b (drop a bs)) le
    ∙ ap (take v) (drop-drop b a bs)

-- bytes are the numbers that they store
parts_all : (bs : List ℕ) (v n : ℕ) → flat_map (λ t. part bs (t * v) v) (range_with_len 0 n) ≡ take (n * v) bs
parts_all bs v zero = ap (λ m. take m bs) (sym (zero-mul v))
parts_all bs v (suc n) =
    let end : n * v + v ≡ suc n * v = ap (λ m. n * v + m) (sym (one-mul v)) ∙ sym (add-mul n 1 v) ∙ ap (λ m. m * v) (add-one n) in
    ap (λ m. flat_map (λ t. part bs (t * v) v) (range_with_len 0 m)) (sym (add-one n)) ∙ pieces_more (λ t. part bs (t * v) v) n
    ∙ ap (λ xs. xs ++ part bs (n * v) v) (parts_all bs v n) ∙ sym (take-add (n * v) v bs) ∙ ap (λ m. take m bs) end

pub relaid : (bs : List ℕ) (v n : ℕ) → Bytes bs → length bs ≡ n * v → flat_map (λ t. le_bytes v (le_value (part bs (t * v) v))) (range_with_len 0 n) ≡ bs
relaid bs v n real long =
    let within : (t : ℕ) → t < n → t * v + v ≤ length bs = λ t h. omega (arith, add-mul t 1 v, one-mul v, mul-le-mul_right v h) in
    let piece : (t : ℕ) → t < n → le_bytes v (le_value (part bs (t * v) v)) ≡ part bs (t * v) v =
    λ t h. ap (λ m. le_bytes m (le_value (part bs (t * v) v))) (sym (length_part bs (t * v) v (within t h))) ∙ le_bytes-le_value (part bs (t * v) v) (Bytes-part bs (t * v) v real) in
    pieces_same _ _ n piece ∙ parts_all bs v n ∙ take_all (n * v) bs (omega arith)

-- a place of a buffer is within it
pub place-within : (j width n : ℕ) → j < n / width → j * width + width ≤ n
place-within j width n h = omega (arith, add-mul j 1 width, one-mul width, mul-le-mul_right width h, div-mul-le_self n width)

-- Numbers stored one after the other, v bytes each, by a loop whose width is known as `width`.
module _ (g : ℕ → ℕ) (v : ℕ) where
  abbrev pub stored : ℕ → List ℕ
  stored n = flat_map (λ j. le_bytes v (g j)) (range_with_len 0 n)

  wide : (j : ℕ) → length (le_bytes v (g j)) ≡ v
  wide j = length-le_bytes v (g j)

  pub stored_none : (was : List ℕ) → was ≡ stored 0 ++ drop (0 * v) was
  stored_none was = let e : 0 ≡ 0 * v = omega arith in ap (λ m. drop m was) e

  pub stored_next : (width : ℕ) → width ≡ v → (was now last : List ℕ) (j n : ℕ) → now ≡ stored j ++ drop (j * v) was → length now ≡ length was →
      j < length was / width → n ≡ g j → last ≡ cond (leb (j * width + width) (length now)) (written now (j * width) (le_bytes width n)) now →
      last ≡ stored (j + 1) ++ drop ((j + 1) * v) was
  stored_next width ew was now last j n e long h en el =
      let room : j * v + v ≤ length now = omega (arith, place-within j v (length was) (subst (λ m. j < length was / m) ew h)) in
      el ∙ ap (λ m. cond (leb (j * m + m) (length now)) (written now (j * m) (le_bytes m n)) now) ew
      ∙ ap (λ t. cond t (written now (j * v) (le_bytes v n)) now) (le-leb (j * v + v) (length now) room)
      ∙ put_piece (λ j. le_bytes v (g j)) v wide was now (le_bytes v n) j e (ap (le_bytes v) en)

  pub stored-end : (width : ℕ) → width ≡ v → (was now : List ℕ) (n : ℕ) → n ≡ length was / width → now ≡ stored n ++ drop (n * v) was →
      now ≡ over (stored (length was / v)) was
  stored-end width ew was now n en e =
      put_pieces (λ j. le_bytes v (g j)) v wide was now n e ∙ ap (λ m. over (stored m) was) (en ∙ ap (λ m. length was / m) ew)

  pub stored-place : (n j : ℕ) (rest : List ℕ) → j < n → part (stored n ++ rest) (j * v) v ≡ le_bytes v (g j)
  stored-place n j rest h = piece_at (λ j. le_bytes v (g j)) v wide n j rest h

  pub length-stored : (n : ℕ) → length (stored n) ≡ n * v
  length-stored n = length_pieces (λ j. le_bytes v (g j)) v wide n

  pub Bytes-stored : (n : ℕ) → Bytes (stored n)
  Bytes-stored zero = λ i. lit< tt
  Bytes-stored (suc n) =
      subst Bytes (sym (ap stored (sym (add-one n)) ∙ pieces_more (λ j. le_bytes v (g j)) n))
      (Bytes-append (stored n) (le_bytes v (g n)) (Bytes-stored n) (Bytes-le_bytes v (g n)))

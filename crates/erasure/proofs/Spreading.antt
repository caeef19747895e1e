-- The slices of a package: laid one after the other, and read again. Assumes nothing.
use Rattle.std.proofs.Common.{◌≡◌, ℕ, ◌+◌, ◌-◌, ◌*◌, ◌/◌, ◌<◌, ◌≤◌, List, ◌++◌, length, take, drop, sym, ap, ◌∙◌, add-mul, one-mul, mul-div_cancel, arith}
use borrow.Rule.Slice.PartMut.{put_mid}
use Rattle.std.specs.List.{range_with_len, flat_map}
use Rattle.std.proofs.lemmas.List.{length-take-le, length-drop}
use Rattle.base.specs.Bytes.{over}
use Rattle.base.proofs.Pieces.{over_whole, put_part, put_piece, put_pieces, length-stored}
use Rattle.erasure.specs.Records.{Coding, column}
use Rattle.erasure.specs.Formula.{slice_of}

-- Slices of one length, written one after the other.
module _ (v all : ℕ) (slice : ℕ → ℕ → List ℕ) (sized : (m i : ℕ) → length (slice m i) ≡ m * v) where
  -- one more slice, written into its part of the buffer
  pub slices_more : (was now out : List ℕ) (i size : ℕ) → 0 < v → size ≡ all * v →
      now ≡ flat_map (slice all) (range_with_len 0 i) ++ drop (i * size) was → length now ≡ length was → (i + 1) * size ≤ length was →
      out ≡ over (slice (length (take ((i + 1) * size - i * size) (drop (i * size) now)) / v) i) (take ((i + 1) * size - i * size) (drop (i * size) now)) →
      put_mid (i * size) ((i + 1) * size - i * size) now out ≡ flat_map (slice all) (range_with_len 0 (i + 1)) ++ drop ((i + 1) * size) was
  slices_more was now out i size pos es e long room eo =
      let whole : (i + 1) * size - i * size ≡ size = omega (arith, add-mul i 1 size, one-mul size) in
      let part = take ((i + 1) * size - i * size) (drop (i * size) now) in
      let part_long : length part ≡ size =
      ap (λ n. length (take n (drop (i * size) now))) whole ∙ length-take-le size (drop (i * size) now) (rw length-drop (omega (arith, add-mul i 1 size, one-mul size))) in
      let count : length part / v ≡ all = ap (λ n. n / v) (part_long ∙ es) ∙ mul-div_cancel all pos in
      let own : out ≡ slice all i =
      eo ∙ ap (λ n. over (slice n i) part) count ∙ over_whole (slice all i) part (omega (arith, part_long, es, sized all i)) in
      let wide : (j : ℕ) → length (slice all j) ≡ size = λ j. sized all j ∙ sym es in
      put_part now out (i * size) ((i + 1) * size - i * size) (ap length own ∙ wide i ∙ sym whole)
      ∙ put_piece (slice all) size wide was now out i e own

  pub slices_all : (was now : List ℕ) (i size count : ℕ) → size ≡ all * v → i ≡ count →
      now ≡ flat_map (slice all) (range_with_len 0 i) ++ drop (i * size) was → now ≡ over (flat_map (slice all) (range_with_len 0 count)) was
  slices_all was now i size count es ei e =
      put_pieces (slice all) size (λ j. sized all j ∙ sym es) was now i e ∙ ap (λ n. over (flat_map (slice all) (range_with_len 0 n)) was) ei

pub length_slice : (C : Coding) (pkg : List ℕ) (m i : ℕ) → length (slice_of C pkg m i) ≡ m * C.stored
length_slice C pkg m i = length-stored (λ j. column C pkg j i) C.stored m

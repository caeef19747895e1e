-- What records that were checked are, and what is worked out from them. Assumes nothing.
use Rattle.std.proofs.Common.{◌≡◌, ℕ, zero, suc, ◌+◌, ◌-◌, ◌*◌, ◌/◌, ◌%◌, ◌^◌, ◌<◌, ◌≤◌, Bool, true, false, cond, not, ◌&&◌, eqb, ltb, List, [], ◌++◌, length, take, drop, replicate, sym, ap, ◌∙◌, subst, ⊎_elim, lt_of_lt_of_le, mul-le-mul_right, mod-lt, add-mul, one-mul, div-add-mod', div-mul-le_self, div-one, arith}
use Rattle.std.specs.List.{range_with_len, flat_map}
use Rattle.std.proofs.lemmas.List.{drop-drop, append-nil}
use Rattle.std.proofs.lemmas.Nat.{le-div}
use Rattle.std.proofs.lemmas.Bool.{cases_lt, and_parts, eqb-true, not-true, not_from_true}
use Rattle.base.specs.Bytes.{le_bytes, le_value, part, over}
use Rattle.base.proofs.Little.{le_value-le_bytes}
use Rattle.base.specs.Sizes.{misfit}
use Rattle.base.proofs.Pieces.{over_whole, pieces_same, part_part, piece_at, stored-place, length-stored}
use Rattle.base.proofs.Every.{every_same}
use Rattle.base.proofs.Lengths.{fits}
use Rattle.base.proofs.Refusing.{passes}
use Rattle.algebra.specs.Fields.{Laws, Widths}
use Rattle.algebra.specs.Polynomials.{at, sum_to}
use Rattle.algebra.proofs.Ring.{zero-code}
use Rattle.algebra.specs.Slices.{stored_at, combined_at, combined}
use Rattle.erasure.specs.Records.{Coding, columns, head, issue_in, record_length, record_with, given_symbol}
use Rattle.erasure.specs.Formula.{point_weights, combined_record}
use Rattle.recovery.specs.Formula.{worked_out, worked_slice, recovered, package_from, rebuilt}
use Rattle.erasure.specs.Slices.{cut_answer}
use Rattle.recovery.specs.Answers.{records_fit, codes_fit, data_fits, rebuild_rest}
use Rattle.recovery.specs.Gathered.{slices_whole, gathered}
use Rattle.erasure.proofs.Reading.{slices_fit}
use Rattle.erasure.proofs.RecordOf.{combined_value}
use Rattle.erasure.proofs.Weighing.{length-combined}

module _ (C : Coding) (bytes : ℕ) (rs : List ℕ) (h : records_fit C bytes rs ≡ true) where
  abbrev long : Bool
  long = eqb (length rs) (C.needed * record_length C bytes)

  abbrev issued : Bool
  issued = not (eqb (issue_in rs) 0)

  pub records-long : length rs ≡ C.needed * record_length C bytes
  records-long = eqb-true (length rs) (C.needed * record_length C bytes) (and_parts long issued (and_parts (long && issued) _ h).0).0

  pub records-issued : issued ≡ true
  records-issued = (and_parts long issued (and_parts (long && issued) _ h).0).1

-- What is worked out fits working memory.
pub slices_room : (C : Coding) → Widths C.ops C.width C.stored C.number → 1 ≤ C.needed → C.needed ≤ 16 → (bytes m : ℕ) → misfit bytes ≡ false → m ≡ columns C bytes → C.needed * (m * C.stored) ≤ 6400
slices_room C W low high bytes m fit em =
    subst (λ n. C.needed * (n * C.stored) ≤ 6400) (sym em) (slices_fit C.ops C.width C.stored C.number W C.needed bytes low high (fits bytes fit).2)

-- A package has columns.
pub columns_some : (C : Coding) → Widths C.ops C.width C.stored C.number → 1 ≤ C.needed → (bytes : ℕ) → misfit bytes ≡ false → 1 ≤ columns C bytes
columns_some C W low bytes fit =
    let symbols : 1 ≤ bytes / C.width = le-div 1 bytes C.width (omega (arith, W.least)) (omega (arith, W.most, one-mul C.width, (fits bytes fit).1)) in
    le-div 1 (bytes / C.width + (C.needed - 1)) C.needed (omega arith) (omega (arith, symbols, one-mul C.needed))

-- What cut answers where records were checked is what rebuild does.
pub cut_rest : (C : Coding) (n bytes : ℕ) (records : List ℕ) (c issue out : ℕ) → misfit bytes ≡ false → not (ltb c n) ≡ false → not (eqb issue 0) ≡ true → codes_fit C bytes records ≡ true →
    cut_answer C n bytes c issue out ≡ rebuild_rest C n bytes records c out
cut_rest C n bytes records c issue out fit fitted issued codes =
    passes (misfit bytes) _ _ fit ∙ passes (not (ltb c n)) _ _ fitted ∙ passes (eqb issue 0) _ _ (not-true _ issued)
    ∙ sym (passes (not (ltb c n)) _ _ fitted ∙ passes (not (codes_fit C bytes records)) _ _ (not_from_true _ codes))

-- The record that is combined from records is the one that is worked out from them.
module _ (C : Coding) (L : Laws C.ops) (W : Widths C.ops C.width C.stored C.number) where
  pub after_heads : (bytes : ℕ) (records : List ℕ) (i j : ℕ) → stored_at C.stored (drop 6 records) (i * record_length C bytes + j * C.stored) ≡ given_symbol C bytes records i j
  after_heads bytes records i j =
      let a = i * record_length C bytes in
      let b = j * C.stored in
      ap (λ xs. le_value (take C.stored xs)) (drop-drop (a + b) 6 records ∙ ap (λ k. drop k records) (omega arith))

  pub rebuilt_is : (bytes : ℕ) (positions records : List ℕ) (c : ℕ) →
      combined_record C bytes (at positions) (drop 6 records) (record_length C bytes) c (issue_in records) ≡ rebuilt C bytes positions records c
  unfolding combined_record rebuilt record_with combined worked_out
  rebuilt_is bytes positions records c =
      ap (λ xs. head (record_length C bytes) C.number (issue_in records) ++ xs)
      (pieces_same _ _ (columns C bytes) (λ j hj. ap (le_bytes C.stored)
      (combined_value C L W (at positions) (λ i. given_symbol C bytes records i j) (drop 6 records) (record_length C bytes) (j * C.stored) c (λ i hi. after_heads bytes records i j))))

  sum-code : (n : ℕ) (g : ℕ → ℕ) → sum_to C.ops n g < C.ops.size
  sum-code zero g = zero-code C.ops L
  sum-code (suc n) g = L.add_code _ _

  -- what is worked out stands in the slices
  pub recovered_at : (bytes : ℕ) (positions records rest : List ℕ) (i j : ℕ) → i < C.needed → j < columns C bytes →
      stored_at C.stored (recovered C positions (drop 6 records) (record_length C bytes) (columns C bytes) ++ rest) (i * (columns C bytes * C.stored) + j * C.stored) ≡ worked_out C bytes positions records j i
  unfolding recovered combined worked_out
  recovered_at bytes positions records rest i j hi hj =
      let v = C.stored in
      let m = columns C bytes in
      let n = m * v in
      let L6 = record_length C bytes in
      let slice : ℕ → List ℕ = worked_slice C positions (drop 6 records) L6 m in
      let bs = flat_map slice (range_with_len 0 C.needed) ++ rest in
      let own : ℕ → ℕ = λ j. combined_at C.ops v (point_weights C (at positions) i) (drop 6 records) L6 (j * v) in
      let wide : (i : ℕ) → length (slice i) ≡ n = λ i. length-combined C.ops v (point_weights C (at positions) i) (drop 6 records) L6 m in
      let room : j * v + v ≤ n = omega (arith, add-mul j 1 v, one-mul v, mul-le-mul_right v hj) in
      let value : own j ≡ worked_out C bytes positions records j i =
      combined_value C L W (at positions) (λ p. given_symbol C bytes records p j) (drop 6 records) L6 (j * v) i (λ p hp. after_heads bytes records p j) in
      let code : own j < 256 ^ v = subst (λ x. x < 256 ^ v) (sym value) (lt_of_lt_of_le (sum-code C.needed _) W.holds) in
      ap le_value (sym (part_part bs (i * n) (j * v) n v room) ∙ ap (λ xs. part xs (j * v) v) (piece_at slice n wide C.needed i rest hi ∙ sym (append-nil (slice i)))
      ∙ stored-place own v m j [] hj)
      ∙ le_value-le_bytes v (own j) code ∙ value

  -- so whether the slices are a package's is whether the records are
  pub whole_is : (bytes : ℕ) (positions records rest : List ℕ) →
      slices_whole C (bytes / C.width) (columns C bytes) (columns C bytes * C.stored) (recovered C positions (drop 6 records) (record_length C bytes) (columns C bytes) ++ rest) ≡ data_fits C bytes positions records
  whole_is bytes positions records rest =
      every_same (columns C bytes) _ _ (λ j hj. every_same C.needed _ _ (λ i hi.
      ap (λ x. ltb x (cond (ltb (j * C.needed + i) (bytes / C.width)) (256 ^ C.width) 1)) (recovered_at bytes positions records rest i j hi hj)))

  -- each symbol of a package stands in a column
  pub in_columns : (s t k : ℕ) → 0 < k → t < s → t / k < (s + (k - 1)) / k
  in_columns s t k pos h =
      let m = (s + (k - 1)) / k in
      ⊎_elim (λ l. l) (λ l. absurd (omega (arith, mul-le-mul_right k l, div-mul-le_self t k, div-add-mod' (s + (k - 1)) k, mod-lt (s + (k - 1)) pos))) (cases_lt (t / k) m)

  pub gathered_is : (bytes : ℕ) (positions records rest : List ℕ) → 0 < C.needed →
      gathered C (columns C bytes * C.stored) (recovered C positions (drop 6 records) (record_length C bytes) (columns C bytes) ++ rest) (bytes / C.width) ≡ package_from C bytes positions records
  unfolding package_from
  gathered_is bytes positions records rest pos =
      pieces_same _ _ (bytes / C.width) (λ t ht. ap (le_bytes C.width)
      (recovered_at bytes positions records rest (t % C.needed) (t / C.needed) (mod-lt t pos) (in_columns (bytes / C.width) t C.needed pos ht)))

  -- the symbols of a package are all of it
  pub whole_symbols : (bytes : ℕ) → misfit bytes ≡ false → bytes / C.width * C.width ≡ bytes
  whole_symbols bytes fit = cases C.width W.least W.most
    where
      cases : (w : ℕ) → 1 ≤ w → w ≤ 2 → bytes / w * w ≡ bytes
      cases zero low high = absurd (omega arith)
      cases (suc zero) low high = omega (arith, div-one bytes)
      cases (suc (suc zero)) low high = omega (arith, (fits bytes fit).0)
      cases (suc (suc (suc w))) low high = absurd (omega arith)

  pub package-long : (bytes : ℕ) (positions records : List ℕ) → misfit bytes ≡ false → length (package_from C bytes positions records) ≡ bytes
  unfolding package_from
  package-long bytes positions records fit = length-stored (λ t. worked_out C bytes positions records (t / C.needed) (t % C.needed)) C.width (bytes / C.width) ∙ whole_symbols bytes fit

  -- what is read in working memory that holds the slices
  module _ (bytes : ℕ) (positions records slices : List ℕ) (e : slices ≡ over (recovered C positions (drop 6 records) (record_length C bytes) (columns C bytes)) (replicate 6400 0)) where
    pub data_is : slices_whole C (bytes / C.width) (columns C bytes) (columns C bytes * C.stored) slices ≡ data_fits C bytes positions records
    data_is = ap (slices_whole C (bytes / C.width) (columns C bytes) (columns C bytes * C.stored)) e ∙ whole_is bytes positions records _

    pub package_is : 0 < C.needed → (own : List ℕ) → length own ≡ bytes → misfit bytes ≡ false →
        over (gathered C (columns C bytes * C.stored) slices (length own / C.width)) own ≡ package_from C bytes positions records
    package_is pos own long fit =
        let is : gathered C (columns C bytes * C.stored) slices (length own / C.width) ≡ package_from C bytes positions records =
        ap (λ n. gathered C (columns C bytes * C.stored) slices (n / C.width)) long ∙ ap (λ xs. gathered C (columns C bytes * C.stored) xs (bytes / C.width)) e
        ∙ gathered_is bytes positions records _ pos in
        ap (λ xs. over xs own) is ∙ over_whole (package_from C bytes positions records) own (omega (arith, long, package-long bytes positions records fit))

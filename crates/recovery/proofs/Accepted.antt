-- Records that are accepted are those of the package that they give. Assumes nothing.
use Rattle.std.proofs.Common.{◌≡◌, ℕ, ◌+◌, ◌*◌, ◌/◌, ◌%◌, ◌^◌, ◌<◌, ◌≤◌, true, false, cond, not, ◌&&◌, eqb, ltb, ◌≢◌, List, [], length, Ok, Option, Result, sym, refl, ap, ◌∙◌, subst, ⊎_elim, add_assoc, mul-le-mul_right, add-mul, one-mul, arith}
use Rattle.std.proofs.lemmas.List.{append-nil}
use Rattle.std.proofs.lemmas.Bool.{cases_lt, and_parts, and_from, eqb-true, ltb-true, lt-ltb, le-ltb, eqb-false, not-false, not_from_true, not-true}
use Rattle.base.specs.Bytes.{Bytes, le_bytes, le_value, part}
use Rattle.base.specs.Sizes.{misfit}
use Rattle.base.proofs.Every.{every_at}
use Rattle.base.specs.Answers.{refuse}
use Rattle.base.proofs.Refusing.{past, passes}
use Rattle.base.proofs.Pieces.{stored-place, Bytes-stored}
use Rattle.base.proofs.Parts.{Bytes-part, length_part}
use Rattle.base.proofs.Little.{le_value-le_bytes, le_value-lt}
use Rattle.algebra.specs.Fields.{Laws, Widths}
use Rattle.algebra.specs.Polynomials.{at, Through}
use Rattle.algebra.proofs.ThroughPoints.{one_polynomial}
use Rattle.erasure.specs.Records.{Coding, columns, column, symbol, issue_in, record_length, record_with, IsRecord}
use Rattle.recovery.specs.Formula.{worked_out, package_from, rebuilt}
use Rattle.erasure.specs.declared.fault.SliceCause.TheVariants.{PackageMisfit, RecordsMisfit}
use Rattle.erasure.specs.declared.fault.SliceFault.{SliceFault}
use Rattle.erasure.specs.Slices.{fault_of}
use Rattle.recovery.specs.Answers.{given_records, positions_fit, head_fits, records_fit, codes_fit, data_fits}
use Rattle.recovery.specs.Joins.{AreRecords, GoesWith}
use Rattle.recovery.proofs.Checked.{records-long, records-issued, package-long}
use Rattle.recovery.proofs.Reading.{record_within}
use Rattle.recovery.proofs.RecordBytes.{record_relaid}
use Rattle.erasure.proofs.RecordOf.{many_codes}
use Rattle.recovery.proofs.Worked.{in_record, row_of, place_of, given, stored-codes, past_end, points, worked, by_polynomial}

-- What is known of records that passed the checks of join and rebuild.
abbrev pub Fits : Coding → ℕ → ℕ → List ℕ → List ℕ → Type 0
Fits C n bytes positions records = (misfit bytes ≡ false) × (positions_fit C.needed n positions ≡ true) × (records_fit C bytes records ≡ true)

module _ (C : Coding) (n bytes : ℕ) (positions records : List ℕ) (named : Option ℕ) {T : Type 0} (next : Result T SliceFault) where
  pub given_past : (x : T) → given_records C n bytes positions records named next ≡ Ok x → Fits C n bytes positions records × (next ≡ Ok x)
  given_past x e =
      let unfit = not (positions_fit C.needed n positions && records_fit C bytes records) in
      let p = past (misfit bytes) (fault_of named PackageMisfit) (refuse unfit (fault_of named RecordsMisfit) next) x e in
      let q = past unfit (fault_of named RecordsMisfit) next x p.1 in
      let both = and_parts (positions_fit C.needed n positions) (records_fit C bytes records) (not-false _ q.0) in
      ((p.0, both.0, both.1), q.1)

  pub given_passes : Fits C n bytes positions records → given_records C n bytes positions records named next ≡ next
  given_passes h = passes (misfit bytes) _ _ h.0 ∙ passes _ _ _ (not_from_true _ (and_from _ _ h.1 h.2))

module _ (C : Coding) (L : Laws C.ops) (W : Widths C.ops C.width C.stored C.number) (low : 1 ≤ C.needed) (high : C.needed ≤ 16) (n : ℕ) (most : n ≤ 16)
    (positions records : List ℕ) (bytes : ℕ) (real : Bytes records) (h : Fits C n bytes positions records) (codes : codes_fit C bytes records ≡ true) where
  pub goes_with : (c : ℕ) → c < n → GoesWith C bytes positions records c (rebuilt C bytes positions records c)
  unfolding rebuilt
  goes_with c hc = record {
    symbols = λ j. worked_out C bytes positions records j c;
    values = λ j hj. worked C L positions records (points C L W n most positions h.1) bytes j (stored-codes C records bytes codes j hj) c (omega (arith, many_codes C L W));
    laid = refl;
  }

  module _ (data_ok : data_fits C bytes positions records ≡ true) where
    abbrev made : List ℕ
    made = package_from C bytes positions records

    abbrev whole : ℕ
    whole = record_length C bytes

    pub long : length made ≡ bytes
    long = package-long C L W bytes positions records h.0

    fit : misfit (length made) ≡ false
    fit = ap misfit long ∙ h.0

    limit : (j : ℕ) → j < columns C bytes → (i : ℕ) → i < C.needed → worked_out C bytes positions records j i < cond (ltb (j * C.needed + i) (bytes / C.width)) (256 ^ C.width) 1
    limit j hj i hi = ltb-true _ _ (every_at C.needed _ (every_at (columns C bytes) _ data_ok j hj) i hi)

    symbol-made : (t : ℕ) → t < bytes / C.width → symbol C made t ≡ le_value (le_bytes C.width (worked_out C bytes positions records (t / C.needed) (t % C.needed)))
    unfolding package_from
    symbol-made t ht =
        ap (λ xs. le_value (part xs (t * C.width) C.width)) (sym (append-nil made))
        ∙ ap le_value (stored-place (λ t. worked_out C bytes positions records (t / C.needed) (t % C.needed)) C.width (bytes / C.width) t [] ht)

    -- the columns of the package are what is worked out
    column-made : (j : ℕ) → j < columns C bytes → (i : ℕ) → i < C.needed → column C made j i ≡ worked_out C bytes positions records j i
    column-made j hj i hi =
        let t = j * C.needed + i in
        let x = worked_out C bytes positions records j i in
        ⊎_elim
        (λ l.
        let small : x < 256 ^ C.width = subst (λ b. x < cond b (256 ^ C.width) 1) (lt-ltb t (bytes / C.width) l) (limit j hj i hi) in
        symbol-made t l ∙ ap (λ a. le_value (le_bytes C.width (worked_out C bytes positions records a (t % C.needed)))) (row_of j i C.needed hi)
        ∙ ap (λ b. le_value (le_bytes C.width (worked_out C bytes positions records j b))) (place_of j i C.needed hi) ∙ le_value-le_bytes C.width x small)
        (λ l.
        let none : x < 1 = subst (λ b. x < cond b (256 ^ C.width) 1) (le-ltb t (bytes / C.width) l) (limit j hj i hi) in
        past_end C L W made fit t (subst (λ b. b / C.width ≤ t) (sym long) l) ∙ omega arith)
        (cases_lt t (bytes / C.width))

    -- so the polynomial through the records' symbols is the one through the package's
    module _ (j : ℕ) (hj : j < columns C bytes) where
      one : (cs : List ℕ) × Through C.ops C.needed (at positions) (given C records bytes j) cs × ((ds : List ℕ) → Through C.ops C.needed (at positions) (given C records bytes j) ds → ds ≡ cs)
      one = one_polynomial C.ops L C.needed (at positions) (given C records bytes j) (points C L W n most positions h.1) (stored-codes C records bytes codes j hj)

      through-made : Through C.ops C.needed (λ i. i) (column C made j) one.0
      through-made = record {
        degree = one.1.degree;
        codes = one.1.codes;
        passes = λ i hi. sym (by_polynomial C L positions records (points C L W n most positions h.1) bytes j (stored-codes C records bytes codes j hj) one.0 one.1 i (omega (arith, many_codes C L W))) ∙ sym (column-made j hj i hi);
      }

    length_all : length records ≡ C.needed * whole
    length_all = records-long C bytes records h.2

    heads : (i : ℕ) → i < C.needed → head_fits C bytes records (i * whole) ≡ true
    heads = every_at C.needed _ (and_parts (eqb (length records) (C.needed * whole) && not (eqb (issue_in records) 0)) _ h.2).1

    number_at : (i a x : ℕ) → a + 2 ≤ 6 → eqb (le_value (part records (i * whole + a) 2)) x ≡ true → le_value (part (part records (i * whole) whole) a 2) ≡ x
    number_at i a x ha e = ap le_value (sym (in_record records i whole a 2 (omega arith))) ∙ eqb-true _ _ e

    record_at : (i : ℕ) → i < C.needed → IsRecord C made (at positions i) (issue_in records) (part records (i * whole) whole)
    record_at i hi =
        let bs = part records (i * whole) whole in
        let v = C.stored in
        let three = and_parts (eqb (le_value (part records (i * whole) 2)) whole && eqb (le_value (part records (i * whole + 2) 2)) C.number) _ (heads i hi) in
        let two = and_parts (eqb (le_value (part records (i * whole) 2)) whole) _ three.0 in
        let same : (j : ℕ) → j < columns C bytes → given C records bytes j i ≡ le_value (part bs (6 + j * v) v) =
        λ j hj. ap (λ a. le_value (part records a v)) (add_assoc (i * whole) 6 (j * v))
        ∙ ap le_value (in_record records i whole (6 + j * v) v (omega (arith, add-mul j 1 v, one-mul v, mul-le-mul_right v hj))) in
        record {
          symbols = λ j. le_value (part bs (6 + j * v) v);
          values = λ j hj.
              let here : j < columns C bytes = subst (λ b. j < columns C b) long hj in
              record { polynomial = (one j here).0; through = through-made j here; value = (one j here).1.passes i hi ∙ same j here };
          laid = record_relaid C bytes bs (issue_in records) (Bytes-part records (i * whole) whole real) (length_part records (i * whole) whole (omega (arith, length_all, record_within i C.needed whole hi)))
              (number_at i 0 whole (omega arith) (subst (λ a. eqb (le_value (part records a 2)) whole ≡ true) (omega arith) two.0))
              (number_at i 2 C.number (omega arith) two.1) (number_at i 4 (issue_in records) (omega arith) three.1)
              ∙ ap (λ b. record_with C b (issue_in records) (λ j. le_value (part bs (6 + j * v) v))) (sym long);
        }

    two_bytes : length (part records 4 2) ≡ 2
    two_bytes = length_part records 4 2 (omega (arith, length_all, mul-le-mul_right whole low, one-mul whole))

    pub are_records : AreRecords C n made positions (issue_in records) records
    unfolding package_from
    are_records = record {
      bytes = Bytes-stored (λ t. worked_out C bytes positions records (t / C.needed) (t % C.needed)) C.width (bytes / C.width);
      sized = fit;
      places = h.1;
      least = pos (issue_in records) (eqb-false (issue_in records) 0 (not-true _ (records-issued C bytes records h.2)));
      most = subst (λ m. issue_in records < 256 ^ m) two_bytes (le_value-lt (part records 4 2) (Bytes-part records 4 2 real));
      long = length_all ∙ ap (λ b. C.needed * record_length C b) (sym long);
      each = λ i hi. subst (λ b. IsRecord C made (at positions i) (issue_in records) (part records (i * record_length C b) (record_length C b))) (sym long) (record_at i hi);
    }
      where
        pos : (x : ℕ) → x ≢ 0 → 1 ≤ x
        pos x ne = omega (arith, ne)

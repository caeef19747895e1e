-- The records of a package are accepted, and give it back. Assumes nothing.
use Rattle.std.proofs.Common.{◌≡◌, ℕ, ◌+◌, ◌*◌, ◌/◌, ◌%◌, ◌^◌, ◌<◌, ◌≤◌, true, cond, not, eqb, ltb, List, length, sym, refl, ap, ◌∙◌, subst, ⊎_elim, lt_of_lt_of_le, add_assoc, mul-le-mul_right, mod-lt, add-mul, one-mul, div-add-mod', zero-mul, arith}
use Rattle.std.proofs.lemmas.Bool.{cases_lt, and_from, eq-eqb, ne_eqb, lt-ltb, le-ltb, not_from_false}
use Rattle.base.specs.Bytes.{le_bytes, le_value, part}
use Rattle.base.proofs.Every.{every_so}
use Rattle.base.proofs.Lengths.{fits}
use Rattle.base.proofs.Pieces.{pieces_same, relaid}
use Rattle.algebra.specs.Fields.{Laws, Widths}
use Rattle.algebra.specs.Polynomials.{at, eval, Through}
use Rattle.algebra.proofs.Poly.{eval-code}
use Rattle.algebra.proofs.ThroughPoints.{one_polynomial, one_value}
use Rattle.erasure.specs.Records.{Coding, columns, column, symbol, issue_in, record_length, record_with, IsRecord}
use Rattle.recovery.specs.Formula.{worked_out, package_from, rebuilt}
use Rattle.recovery.specs.Answers.{records_fit, codes_fit, data_fits}
use Rattle.recovery.specs.Joins.{AreRecords}
use Rattle.recovery.proofs.Checked.{whole_symbols, in_columns}
use Rattle.erasure.proofs.Reading.{one_slice, slices_fit}
use Rattle.recovery.proofs.RecordBytes.{record_symbol, record_whole, record_number, record_issue}
use Rattle.erasure.proofs.RecordOf.{symbol-lt, symbol-code, many_codes, own-codes}
use Rattle.recovery.proofs.Worked.{in_record, given, past_end, points, by_polynomial}

module _ (C : Coding) (L : Laws C.ops) (W : Widths C.ops C.width C.stored C.number) (low : 1 ≤ C.needed) (high : C.needed ≤ 16) (n : ℕ) (most : n ≤ 16)
    (positions records : List ℕ) (pkg : List ℕ) (issue : ℕ) (R : AreRecords C n pkg positions issue records) where
  abbrev size : ℕ
  size = length pkg

  abbrev whole : ℕ
  whole = record_length C (length pkg)

  small : whole < 65536
  small =
      let slices = slices_fit C.ops C.width C.stored C.number W C.needed size low high (fits size R.sized).2 in
      omega (arith, one_slice C.needed (columns C size * C.stored) 6400 low slices)

  -- one polynomial for a column: through the package's symbols, and through the records'
  module _ (j : ℕ) (hj : j < columns C size) where
    own : (cs : List ℕ) × Through C.ops C.needed (λ i. i) (column C pkg j) cs × ((ds : List ℕ) → Through C.ops C.needed (λ i. i) (column C pkg j) ds → ds ≡ cs)
    own = one_polynomial C.ops L C.needed (λ i. i) (column C pkg j) (own-codes C L W high) (λ i hi. symbol-code C L W pkg (j * C.needed + i) R.bytes)

    cut_at : (i : ℕ) (hi : i < C.needed) → eval C.ops own.0 (at positions i) ≡ (R.each i hi).symbols j
    cut_at i hi =
        one_value C.ops L C.needed (λ i. i) (column C pkg j) (at positions i) _ _ (own-codes C L W high) (record { polynomial = own.0; through = own.1; value = refl }) ((R.each i hi).values j hj)

    room : 6 + j * C.stored + C.stored ≤ whole
    room = omega (arith, add-mul j 1 C.stored, one-mul C.stored, mul-le-mul_right C.stored hj)

    read_at : (i : ℕ) (hi : i < C.needed) → given C records size j i ≡ (R.each i hi).symbols j
    read_at i hi =
        let code : (R.each i hi).symbols j < 256 ^ C.stored = subst (λ y. y < 256 ^ C.stored) (cut_at i hi) (lt_of_lt_of_le (eval-code C.ops L own.0 (at positions i)) W.holds) in
        ap (λ a. le_value (part records a C.stored)) (add_assoc (i * whole) 6 (j * C.stored))
        ∙ ap le_value (in_record records i whole (6 + j * C.stored) C.stored room)
        ∙ ap (λ xs. le_value (part xs (6 + j * C.stored) C.stored)) (R.each i hi).laid ∙ record_symbol C size issue (R.each i hi).symbols j hj code

    given_code : (i : ℕ) → i < C.needed → given C records size j i < C.ops.size
    given_code i hi = subst (λ y. y < C.ops.size) (cut_at i hi ∙ sym (read_at i hi)) (eval-code C.ops L own.0 (at positions i))

    value_at : (x : ℕ) → x < C.ops.size → worked_out C size positions records j x ≡ eval C.ops own.0 x
    value_at = by_polynomial C L positions records (points C L W n most positions R.places) size j given_code own.0 (record {
      degree = own.1.degree;
      codes = own.1.codes;
      passes = λ i hi. cut_at i hi ∙ sym (read_at i hi);
    })

    symbol_at : (i : ℕ) → i < C.needed → worked_out C size positions records j i ≡ column C pkg j i
    symbol_at i hi = value_at i (omega (arith, many_codes C L W)) ∙ own.1.passes i hi

  head_at : (i a : ℕ) (hi : i < C.needed) → a + 2 ≤ 6 → le_value (part records (i * whole + a) 2) ≡ le_value (part (record_with C size issue (R.each i hi).symbols) a 2)
  head_at i a hi h = ap le_value (in_record records i whole a 2 (omega arith)) ∙ ap (λ xs. le_value (part xs a 2)) (R.each i hi).laid

  pub issue_is : issue_in records ≡ issue
  issue_is = ap (λ a. le_value (part records (a + 4) 2)) (sym (zero-mul whole)) ∙ head_at 0 4 (omega arith) (omega arith) ∙ record_issue C size issue _ R.most

  pub records_ok : records_fit C size records ≡ true
  records_ok =
      let long = eq-eqb (length records) (C.needed * whole) R.long in
      let some : not (eqb (issue_in records) 0) ≡ true = not_from_false (eqb (issue_in records) 0) (ne_eqb (issue_in records) 0 (λ e. absurd (omega (arith, issue_is, R.least)))) in
      and_from _ _ (and_from _ _ long some) (every_so C.needed _ (λ i hi.
      and_from _ _ (and_from _ _
      (eq-eqb _ _ (ap (λ a. le_value (part records a 2)) (omega arith) ∙ head_at i 0 hi (omega arith) ∙ record_whole C size issue _ small))
      (eq-eqb _ _ (head_at i 2 hi (omega arith) ∙ record_number C size issue _ W.small)))
      (eq-eqb _ _ (head_at i 4 hi (omega arith) ∙ record_issue C size issue _ R.most ∙ sym issue_is))))

  pub codes_ok : codes_fit C size records ≡ true
  codes_ok = every_so C.needed _ (λ i hi. every_so (columns C size) _ (λ j hj. lt-ltb _ _ (given_code j hj i hi)))

  symbol_ok : (t : ℕ) → ltb (symbol C pkg t) (cond (ltb t (size / C.width)) (256 ^ C.width) 1) ≡ true
  symbol_ok t = ⊎_elim
      (λ l. ap (λ b. ltb (symbol C pkg t) (cond b (256 ^ C.width) 1)) (lt-ltb t (size / C.width) l) ∙ lt-ltb _ _ (symbol-lt C L W pkg t R.bytes))
      (λ l. ap (λ b. ltb (symbol C pkg t) (cond b (256 ^ C.width) 1)) (le-ltb t (size / C.width) l) ∙ ap (λ s. ltb s 1) (past_end C L W pkg R.sized t l))
      (cases_lt t (size / C.width))

  pub symbols_ok : data_fits C size positions records ≡ true
  symbols_ok = every_so (columns C size) _ (λ j hj. every_so C.needed _ (λ i hi.
      ap (λ s. ltb s (cond (ltb (j * C.needed + i) (size / C.width)) (256 ^ C.width) 1)) (symbol_at j hj i hi) ∙ symbol_ok (j * C.needed + i)))

  pub package_is : package_from C size positions records ≡ pkg
  unfolding package_from
  package_is =
      pieces_same _ _ (size / C.width) (λ t ht. ap (le_bytes C.width)
      (symbol_at (t / C.needed) (in_columns C L W (size / C.width) t C.needed low ht) (t % C.needed) (mod-lt t low) ∙ ap (symbol C pkg) (div-add-mod' t C.needed)))
      ∙ relaid pkg C.width (size / C.width) R.bytes (sym (whole_symbols C L W size R.sized))

  pub rebuilt_record : (c : ℕ) → c < n → IsRecord C pkg c issue (rebuilt C size positions records c)
  unfolding rebuilt
  rebuilt_record c hc = record {
    symbols = λ j. worked_out C size positions records j c;
    values = λ j hj. record { polynomial = (own j hj).0; through = (own j hj).1; value = sym (value_at j hj c (omega (arith, many_codes C L W))) };
    laid = ap (λ i. record_with C size i (λ j. worked_out C size positions records j c)) issue_is;
  }

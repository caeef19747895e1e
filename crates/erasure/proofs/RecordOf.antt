-- The record that is made from a package's slices is the cabinet's. Assumes nothing.
use Rattle.std.proofs.Common.{◌≡◌, ℕ, ◌+◌, ◌*◌, ◌^◌, ◌<◌, ◌≤◌, false, not, eqb, ltb, List, [], ◌++◌, length, IfOk, Some, None, Ok, Err, Result, sym, refl, ap, ◌∙◌, lt_of_lt_of_le, mul-le-mul_right, add-mul, one-mul, zero-add, arith, lit≤, ltb-true, le-ltb}
use native.Mathlib.Nat.{pow-le-pow_right}
use Rattle.std.proofs.lemmas.List.FromFn.{get_or-map-range_with_len, length-map-range_with_len}
use Rattle.std.proofs.lemmas.List.{append-nil, length-take}
use Rattle.base.specs.Bytes.{Bytes, le_bytes, le_value, part, over}
use Rattle.base.proofs.Little.{le_value-le_bytes, le_value-lt}
use Rattle.base.proofs.Parts.{Bytes-part}
use Rattle.base.proofs.Pieces.{pieces_same, part_part, piece_at, stored-place, length-stored}
use Rattle.std.proofs.lemmas.Bool.{not-false}
use Rattle.base.specs.Answers.{refuse, leaves}
use Rattle.base.specs.Sizes.{misfit}
use Rattle.base.proofs.Refusing.{past, passes, leaves_ok}
use Rattle.algebra.specs.Fields.{Laws, Widths}
use Rattle.algebra.specs.Polynomials.{at, Points, sum_to}
use Rattle.algebra.specs.Lagrange.{weight, lagrange}
use Rattle.algebra.specs.Slices.{stored_at, combined_at, combined}
use Rattle.algebra.proofs.ThroughPoints.{sum_same, formula_value}
use Rattle.erasure.specs.Records.{Coding, head, columns, column, symbol, record_length, record_with, IsRecord}
use Rattle.erasure.specs.declared.fault.SliceCause.TheVariants.{NoCabinet, PackageMisfit, IssueZero, OutputShort}
use Rattle.erasure.specs.declared.fault.SliceFault.{SliceFault}
use Rattle.erasure.specs.Slices.{fault_of, spread_answer, cut_answer}
use Rattle.erasure.proofs.Reading.{slices_fit}
use Rattle.erasure.specs.Formula.{slice_of, spread, cabinet_symbol, record_of, record_from, point_weights, combined_record}
use Rattle.erasure.proofs.Points.{own_slices}

module _ (C : Coding) (L : Laws C.ops) (W : Widths C.ops C.width C.stored C.number) where
  -- a symbol is a code
  pub symbol-lt : (pkg : List ℕ) (i : ℕ) → Bytes pkg → symbol C pkg i < 256 ^ C.width
  symbol-lt pkg i h =
      let bs = part pkg (i * C.width) C.width in
      let few : length bs ≤ C.width = rw length-take (omega arith) in
      lt_of_lt_of_le (le_value-lt bs (Bytes-part pkg (i * C.width) C.width h)) (pow-le-pow_right (lit≤ tt) few)

  pub symbol-code : (pkg : List ℕ) (i : ℕ) → Bytes pkg → symbol C pkg i < C.ops.size
  symbol-code pkg i h = lt_of_lt_of_le (symbol-lt pkg i h) W.fills

  -- the symbols stand in the slices
  pub spread_at : (pkg rest : List ℕ) (i j : ℕ) → Bytes pkg → i < C.needed → j < columns C (length pkg) →
      stored_at C.stored (spread C pkg ++ rest) (i * (columns C (length pkg) * C.stored) + j * C.stored) ≡ column C pkg j i
  unfolding spread
  spread_at pkg rest i j bytes hi hj =
      let v = C.stored in
      let m = columns C (length pkg) in
      let n = m * v in
      let bs = spread C pkg ++ rest in
      let own : ℕ → ℕ = λ j. column C pkg j i in
      let wide : (i : ℕ) → length (slice_of C pkg m i) ≡ n = λ i. length-stored (λ j. column C pkg j i) v m in
      let room : j * v + v ≤ n = omega (arith, add-mul j 1 v, one-mul v, mul-le-mul_right v hj) in
      let code : column C pkg j i < 256 ^ v = lt_of_lt_of_le (symbol-code pkg (j * C.needed + i) bytes) W.holds in
      ap le_value (sym (part_part bs (i * n) (j * v) n v room) ∙ ap (λ xs. part xs (j * v) v) (piece_at (slice_of C pkg m) n wide C.needed i rest hi ∙ sym (append-nil (slice_of C pkg m i)))
      ∙ stored-place own v m j [] hj)
      ∙ le_value-le_bytes v (column C pkg j i) code

  weights_at : (ps : ℕ → ℕ) (x i : ℕ) → i < C.needed → at (point_weights C ps x) i ≡ weight C.ops C.needed ps (ps i) x
  unfolding point_weights
  weights_at ps x i h = get_or-map-range_with_len (λ i. weight C.ops C.needed ps (ps i) x) 0 C.needed i i 0 h (zero-add i)

  count_weights : (ps : ℕ → ℕ) (x : ℕ) → length (point_weights C ps x) ≡ C.needed
  unfolding point_weights
  count_weights ps x = length-map-range_with_len (λ i. weight C.ops C.needed ps (ps i) x) 0 C.needed

  -- what is combined from slices is the formula's value
  pub combined_value : (ps vs : ℕ → ℕ) (bs : List ℕ) (stride place x : ℕ) → ((i : ℕ) → i < C.needed → stored_at C.stored bs (i * stride + place) ≡ vs i) →
      combined_at C.ops C.stored (point_weights C ps x) bs stride place ≡ lagrange C.ops C.needed ps vs x
  unfolding combined_at
  combined_value ps vs bs stride place x h =
      let f = C.ops in
      ap (λ k. sum_to f k (λ i. f.mul (stored_at C.stored bs (i * stride + place)) (at (point_weights C ps x) i))) (count_weights ps x)
      ∙ sum_same f L C.needed _ _ (λ i hi. ap (λ y. f.mul y (at (point_weights C ps x) i)) (h i hi) ∙ ap (f.mul (vs i)) (weights_at ps x i hi))

  combined-symbol : (pkg rest : List ℕ) (c j : ℕ) → Bytes pkg → j < columns C (length pkg) →
      combined_at C.ops C.stored (point_weights C (λ i. i) c) (spread C pkg ++ rest) (columns C (length pkg) * C.stored) (j * C.stored) ≡ cabinet_symbol C pkg c j
  combined-symbol pkg rest c j bytes hj =
      combined_value (λ i. i) (column C pkg j) (spread C pkg ++ rest) (columns C (length pkg) * C.stored) (j * C.stored) c (λ i hi. spread_at pkg rest i j bytes hi hj)

  pub record_is : (pkg rest : List ℕ) (bytes c issue : ℕ) → Bytes pkg → bytes ≡ length pkg → record_from C bytes (spread C pkg ++ rest) c issue ≡ record_of C pkg c issue
  unfolding combined_record record_of record_with combined
  record_is pkg rest bytes c issue h e =
      ap (λ n. record_from C n (spread C pkg ++ rest) c issue) e ∙ own_slices C (length pkg) (spread C pkg ++ rest) c issue
      ∙ ap (λ xs. head (record_length C (length pkg)) C.number issue ++ xs)
      (pieces_same _ _ (columns C (length pkg)) (λ j hj. ap (le_bytes C.stored) (combined-symbol pkg rest c j h hj)))

  -- each cabinet's number is a code
  pub many_codes : 16 ≤ C.ops.size
  many_codes = let more : 256 ^ 1 ≤ 256 ^ C.width = pow-le-pow_right (lit≤ tt) W.least in omega (arith, W.fills)

  pub own-codes : C.needed ≤ 16 → Points C.ops C.needed (λ i. i)
  own-codes few = record { code = λ i hi. omega (arith, many_codes); apart = λ i j hi hj e. e }

  -- the formula's record is the cabinet's, in a polynomial's words
  pub is_record : (pkg : List ℕ) (c issue : ℕ) → Bytes pkg → C.needed ≤ 16 → c < 16 → IsRecord C pkg c issue (record_of C pkg c issue)
  unfolding record_of
  is_record pkg c issue h few fitted =
      record {
        symbols = cabinet_symbol C pkg c;
        values = λ j hj. formula_value C.ops L C.needed (λ i. i) (own-codes few) (column C pkg j) (λ i hi. symbol-code pkg (j * C.needed + i) h) c (omega (arith, many_codes));
        laid = refl;
      }

  -- ---- what the answers say, taken apart
  pub cut_past : (n bytes c issue out x : ℕ) → cut_answer C n bytes c issue out ≡ Ok x → (misfit bytes ≡ false) × (not (ltb c n) ≡ false)
  cut_past n bytes c issue out x e =
      let C3 = refuse (ltb out (record_length C bytes)) (fault_of (Some c) OutputShort) (Ok (record_length C bytes)) in
      let C2 = refuse (eqb issue 0) (fault_of (Some c) IssueZero) C3 in
      let C1 = refuse (not (ltb c n)) (fault_of (Some c) NoCabinet) C2 in
      let first = past (misfit bytes) (fault_of (Some c) PackageMisfit) C1 x e in
      (first.0, (past (not (ltb c n)) (fault_of (Some c) NoCabinet) C2 x first.1).0)

  -- working memory of 6,400 bytes suffices for the slices of any package
  pub spread_done : (pkg zeros slices : List ℕ) (answer : Result ℕ SliceFault) → 1 ≤ C.needed → C.needed ≤ 16 → length zeros ≡ 6400 → length pkg ≤ 4128 → misfit (length pkg) ≡ false →
      answer ≡ spread_answer C (length pkg) (length zeros) → slices ≡ leaves answer zeros (over (spread C pkg) zeros) → slices ≡ over (spread C pkg) zeros
  spread_done pkg zeros slices answer low high long few fit ea es =
      let size = C.needed * (columns C (length pkg) * C.stored) in
      let room : ltb (length zeros) size ≡ false = le-ltb (length zeros) size (omega (arith, slices_fit C.ops C.width C.stored C.number W C.needed (length pkg) low high few)) in
      let ok : answer ≡ Ok size = ea ∙ passes (misfit (length pkg)) (fault_of None PackageMisfit) _ fit ∙ passes (ltb (length zeros) size) (fault_of None OutputShort) (Ok size) room in
      es ∙ leaves_ok answer size zeros (over (spread C pkg) zeros) ok

  pub cut_exact : (n : ℕ) (pkg : List ℕ) (c issue out : ℕ) (answer : Result ℕ SliceFault) → Bytes pkg → C.needed ≤ 16 → n ≤ 16 → answer ≡ cut_answer C n (length pkg) c issue out →
      IfOk answer (λ x. IsRecord C pkg c issue (record_of C pkg c issue))
  cut_exact n pkg c issue out (Ok x) h few most e =
      let fitted = (cut_past n (length pkg) c issue out x (sym e)).1 in
      is_record pkg c issue h few (omega (arith, ltb-true c n (not-false (ltb c n) fitted)))
  cut_exact n pkg c issue out (Err f) h few most e = tt

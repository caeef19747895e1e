-- What is worked out from records is the value of the polynomial through their symbols. Assumes nothing.
use Rattle.std.proofs.Common.{◌≡◌, ℕ, ◌+◌, ◌*◌, ◌/◌, ◌%◌, ◌<◌, ◌≤◌, true, false, not, ◌&&◌, eqb, ltb, ◌≢◌, List, [], length, take, sym, refl, ap, ◌∙◌, ⊎_elim, mul-le-mul_right, add_comm, div-add-mod', arith}
use native.Mathlib.Nat.{add-mul-div_right, div-eq_of_lt}
use Rattle.std.proofs.lemmas.List.{drop_all, take_all}
use Rattle.std.proofs.lemmas.Bool.{cases_lt, and_parts, eq-eqb, ltb-true, not_from_true, true≢false}
use Rattle.base.specs.Bytes.{le_value, part}
use Rattle.base.specs.Sizes.{misfit}
use Rattle.base.proofs.Every.{every_at}
use Rattle.base.proofs.Pieces.{part_part}
use Rattle.algebra.specs.Fields.{Laws, Widths}
use Rattle.algebra.specs.Polynomials.{at, eval, Points, Through, ValueAt}
use Rattle.algebra.proofs.ThroughPoints.{formula_value, one_value}
use Rattle.erasure.specs.Records.{Coding, columns, symbol, given_symbol}
use Rattle.recovery.specs.Formula.{worked_out}
use Rattle.recovery.specs.Answers.{positions_fit, codes_fit}
use Rattle.recovery.proofs.Checked.{whole_symbols}
use Rattle.erasure.proofs.RecordOf.{many_codes}
use Rattle.base.specs.Tests.{every}

-- A number at a place of record i of those that stand end to end.
pub in_record : (records : List ℕ) (i whole at v : ℕ) → at + v ≤ whole → part records (i * whole + at) v ≡ part (part records (i * whole) whole) at v
in_record records i whole at v h = sym (part_part records (i * whole) at whole v h)

-- A symbol's column, and its place there.
pub row_of : (j i k : ℕ) → i < k → (j * k + i) / k ≡ j
row_of j i k h = ap (λ m. m / k) (add_comm (j * k) i) ∙ add-mul-div_right i j (omega arith) ∙ omega (arith, div-eq_of_lt h)

pub place_of : (j i k : ℕ) → i < k → (j * k + i) % k ≡ i
place_of j i k h = omega (arith, div-add-mod' (j * k + i) k, ap (λ m. m * k) (row_of j i k h))

-- The symbols that the records hold for a column.
abbrev pub given : Coding → List ℕ → ℕ → ℕ → ℕ → ℕ
given C records bytes j i = given_symbol C bytes records i j

pub stored-codes : (C : Coding) (records : List ℕ) (bytes : ℕ) → codes_fit C bytes records ≡ true → (j : ℕ) → j < columns C bytes → (i : ℕ) → i < C.needed → given C records bytes j i < C.ops.size
stored-codes C records bytes h j hj i hi = ltb-true _ _ (every_at (columns C bytes) _ (every_at C.needed _ h i hi) j hj)

module _ (C : Coding) (L : Laws C.ops) (W : Widths C.ops C.width C.stored C.number) where
  -- past the end of a package its symbols are 0
  pub past_end : (pkg : List ℕ) → misfit (length pkg) ≡ false → (t : ℕ) → length pkg / C.width ≤ t → symbol C pkg t ≡ 0
  past_end pkg fit t h =
      ap (λ xs. le_value (take C.width xs)) (drop_all (t * C.width) pkg (omega (arith, mul-le-mul_right C.width h, whole_symbols C L W (length pkg) fit)))
      ∙ ap le_value (take_all {A = ℕ} C.width [] (omega arith))

  -- differing positions of fitted cabinets are points
  module _ (n : ℕ) (most : n ≤ 16) (positions : List ℕ) (h : positions_fit C.needed n positions ≡ true) where
    position_fits : (i : ℕ) → i < C.needed → (ltb (at positions i) n && every i (λ j. not (eqb (at positions i) (at positions j)))) ≡ true
    position_fits = every_at C.needed _ (and_parts (eqb (length positions) C.needed) _ h).1

    position_code : (i : ℕ) → i < C.needed → at positions i < C.ops.size
    position_code i hi =
        let below = ltb-true (at positions i) n (and_parts (ltb (at positions i) n) _ (position_fits i hi)).0 in
        omega (arith, many_codes C L W)

    differs : (i j : ℕ) → i < C.needed → j < i → at positions i ≢ at positions j
    differs i j hi hj e =
        let fresh = every_at i _ (and_parts (ltb (at positions i) n) _ (position_fits i hi)).1 j hj in
        true≢false (sym fresh ∙ not_from_true (eqb (at positions i) (at positions j)) (eq-eqb (at positions i) (at positions j) e))

    pub points : Points C.ops C.needed (at positions)
    points = record {
      code = position_code;
      apart = λ i j hi hj e. ⊎_elim (λ l. absurd (differs j i hj l (sym e))) (λ l. ⊎_elim (λ l'. absurd (differs i j hi l' e)) (λ l'. omega arith) (cases_lt j i)) (cases_lt i j);
    }

-- What is worked out is the value of the polynomial through the records' symbols.
module _ (C : Coding) (L : Laws C.ops) (positions records : List ℕ) (P : Points C.ops C.needed (at positions)) (bytes j : ℕ)
    (codes : (i : ℕ) → i < C.needed → given C records bytes j i < C.ops.size) where
  pub worked : (x : ℕ) → x < C.ops.size → ValueAt C.ops C.needed (at positions) (given C records bytes j) x (worked_out C bytes positions records j x)
  unfolding worked_out
  worked x hx = formula_value C.ops L C.needed (at positions) P (given C records bytes j) codes x hx

  pub by_polynomial : (cs : List ℕ) → Through C.ops C.needed (at positions) (given C records bytes j) cs → (x : ℕ) → x < C.ops.size →
      worked_out C bytes positions records j x ≡ eval C.ops cs x
  by_polynomial cs T x hx =
      one_value C.ops L C.needed (at positions) (given C records bytes j) x _ _ P (worked x hx) (record { polynomial = cs; through = T; value = refl })

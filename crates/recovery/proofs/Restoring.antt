-- From any k records of a package come the package and every record of it, and from no others. Assumes nothing.
use Rattle.std.proofs.Common.{◌≡◌, ℕ, ◌<◌, ◌≤◌, not, ◌&&◌, ltb, List, length, Some, None, Ok, ◌∙◌, subst, arith}
use Rattle.std.proofs.lemmas.Bool.{and_parts, and_from, ltb-true, lt-ltb, le-ltb, not-false, not_from_true}
use Rattle.base.specs.Bytes.{Bytes}
use Rattle.base.proofs.Refusing.{past, passes}
use Rattle.algebra.specs.Fields.{Laws, Widths}
use Rattle.algebra.specs.declared.field.Field.{Ghosts as Field}
use Rattle.erasure.specs.declared.plan.Plan.{Plan}
use Rattle.erasure.specs.Whole.{coding_of}
use Rattle.erasure.specs.Records.{Coding, issue_in, record_length, IsRecord}
use Rattle.recovery.specs.Formula.{package_from, rebuilt}
use Rattle.recovery.specs.Answers.{codes_fit, data_fits, join_rest, join_answer, rebuild_rest, rebuild_answer}
use Rattle.recovery.specs.Joins.{AreRecords, Joins, Rebuilds, GoesWith}
use Rattle.recovery.proofs.FromCut.{records_ok, codes_ok, symbols_ok, package_is, rebuilt_record}
use Rattle.recovery.proofs.Accepted.{Fits, given_past, given_passes, goes_with, long, are_records}

module _ (C : Coding) (L : Laws C.ops) (W : Widths C.ops C.width C.stored C.number) (n bytes : ℕ) (positions records : List ℕ) (real : Bytes records)
    (low : 1 ≤ C.needed) (high : C.needed ≤ 16) (most : n ≤ 16) where
  join_only : (out m : ℕ) → join_answer C n bytes positions records out ≡ Ok m →
      (length (package_from C bytes positions records) ≡ bytes) × AreRecords C n (package_from C bytes positions records) positions (issue_in records) records
  join_only out m e =
      let p = given_past C n bytes positions records None (join_rest C bytes positions records out) m e in
      let q = past (not (codes_fit C bytes records && data_fits C bytes positions records)) _ _ m p.1 in
      let both = and_parts (codes_fit C bytes records) (data_fits C bytes positions records) (not-false _ q.0) in
      (long C L W low high n most positions records bytes real p.0 both.0 both.1, are_records C L W low high n most positions records bytes real p.0 both.0 both.1)

  rebuild_only : (c out m : ℕ) → rebuild_answer C n bytes positions records c out ≡ Ok m → GoesWith C bytes positions records c (rebuilt C bytes positions records c)
  rebuild_only c out m e =
      let p = given_past C n bytes positions records (Some c) (rebuild_rest C n bytes records c out) m e in
      let q = past (not (ltb c n)) _ _ m p.1 in
      let r = past (not (codes_fit C bytes records)) _ _ m q.1 in
      goes_with C L W low high n most positions records bytes real p.0 (not-false _ r.0) c (ltb-true c n (not-false _ q.0))

module _ (C : Coding) (L : Laws C.ops) (W : Widths C.ops C.width C.stored C.number) (n : ℕ) (positions records : List ℕ)
    (low : 1 ≤ C.needed) (high : C.needed ≤ 16) (most : n ≤ 16) (pkg : List ℕ) (issue out : ℕ) (R : AreRecords C n pkg positions issue records) where
  fits_all : Fits C n (length pkg) positions records
  fits_all = (R.sized, R.places, records_ok C L W low high n most positions records pkg issue R)

  pub join_each : length pkg ≤ out → (join_answer C n (length pkg) positions records out ≡ Ok (length pkg)) × (package_from C (length pkg) positions records ≡ pkg)
  join_each room = (
    given_passes C n (length pkg) positions records None (join_rest C (length pkg) positions records out) fits_all
        ∙ passes _ _ _ (not_from_true _ (and_from _ _ (codes_ok C L W low high n most positions records pkg issue R) (symbols_ok C L W low high n most positions records pkg issue R)))
        ∙ passes _ _ _ (le-ltb out (length pkg) room),
    package_is C L W low high n most positions records pkg issue R,
  )

  rebuild_each : (c : ℕ) → c < n → record_length C (length pkg) ≤ out →
      (rebuild_answer C n (length pkg) positions records c out ≡ Ok (record_length C (length pkg))) × IsRecord C pkg c issue (rebuilt C (length pkg) positions records c)
  rebuild_each c hc room = (
    given_passes C n (length pkg) positions records (Some c) (rebuild_rest C n (length pkg) records c out) fits_all
        ∙ passes _ _ _ (not_from_true _ (lt-ltb c n hc)) ∙ passes _ _ _ (not_from_true _ (codes_ok C L W low high n most positions records pkg issue R))
        ∙ passes _ _ _ (le-ltb out (record_length C (length pkg)) room),
    rebuilt_record C L W low high n most positions records pkg issue R c hc,
  )

module _ (C : Coding) (L : Laws C.ops) (W : Widths C.ops C.width C.stored C.number) (n bytes : ℕ) (positions records : List ℕ) (real : Bytes records)
    (low : 1 ≤ C.needed) (high : C.needed ≤ 16) (most : n ≤ 16) where
  pub joins : Joins C n bytes positions records
  joins = record {
    only = join_only C L W n bytes positions records real low high most;
    each = λ pkg issue out e R. subst (λ b. b ≤ out → (join_answer C n b positions records out ≡ Ok b) × (package_from C b positions records ≡ pkg)) e
        (join_each C L W n positions records low high most pkg issue out R);
  }

  pub rebuilds : (c : ℕ) → Rebuilds C n bytes positions records c
  rebuilds c = record {
    only = rebuild_only C L W n bytes positions records real low high most c;
    each = λ pkg issue out e R hc. subst (λ b. record_length C b ≤ out → (rebuild_answer C n b positions records c out ≡ Ok (record_length C b)) × IsRecord C pkg c issue (rebuilt C b positions records c)) e
        (rebuild_each C L W n positions records low high most pkg issue out R c hc);
  }

-- The same of a plan and a field of the program.
module _ {F : Type 0} (field : Field F) (L : Laws field.ops) (W : Widths field.ops field.width field.stored field.number) (plan : Plan) (bytes : ℕ) (positions records : List ℕ) (real : Bytes records) where
  pub plan_joins : Joins (coding_of field plan) plan.n bytes positions records
  plan_joins = joins (coding_of field plan) L W plan.n bytes positions records real (omega (arith, plan.fits)) (omega (arith, plan.fits)) (omega (arith, plan.fits))

  pub plan_rebuilds : (c : ℕ) → Rebuilds (coding_of field plan) plan.n bytes positions records c
  plan_rebuilds = rebuilds (coding_of field plan) L W plan.n bytes positions records real (omega (arith, plan.fits)) (omega (arith, plan.fits)) (omega (arith, plan.fits))

-- What join and rebuild give, in the words of a polynomial and of cut. Assumes nothing.
use Rattle.std.specs.Prelude.{◌≡◌, ℕ, ◌*◌, ◌<◌, ◌≤◌, true, false, List, length, Ok}
use Rattle.base.specs.Bytes.{Bytes, part}
use Rattle.base.specs.Sizes.{misfit}
use Rattle.algebra.specs.Polynomials.{at, ValueAt}
use Rattle.erasure.specs.Records.{Coding, columns, issue_in, record_length, record_with, given_symbol, IsRecord}
use Rattle.recovery.specs.Formula.{package_from, rebuilt}
use Rattle.recovery.specs.Answers.{positions_fit, join_answer, rebuild_answer}

-- Records end to end that cut gives of one package, with one issue, for cabinets at k differing positions below n.
pub record AreRecords (C : Coding) (n : ℕ) (pkg positions : List ℕ) (issue : ℕ) (records : List ℕ) : Type 0 where
  pub bytes : Bytes pkg
  pub sized : misfit (length pkg) ≡ false
  pub places : positions_fit C.needed n positions ≡ true
  pub least : 1 ≤ issue
  pub most : issue < 65536
  pub long : length records ≡ C.needed * record_length C (length pkg)
  pub each : (i : ℕ) → i < C.needed →
      IsRecord C pkg (at positions i) issue (part records (i * record_length C (length pkg)) (record_length C (length pkg)))

-- What join accepts is what cut made of the package that it gives; and it accepts whatever cut made of a package, and gives
-- that package, where the output is long enough.
pub record Joins (C : Coding) (n bytes : ℕ) (positions records : List ℕ) : Type 0 where
  pub only : (out m : ℕ) → join_answer C n bytes positions records out ≡ Ok m →
      (length (package_from C bytes positions records) ≡ bytes) × AreRecords C n (package_from C bytes positions records) positions (issue_in records) records
  pub each : (pkg : List ℕ) (issue out : ℕ) → length pkg ≡ bytes → AreRecords C n pkg positions issue records → bytes ≤ out →
      (join_answer C n bytes positions records out ≡ Ok bytes) × (package_from C bytes positions records ≡ pkg)

-- The record of cabinet c that goes with k others: its symbol in a column is the value at code c of the polynomial of degree
-- below k whose value at each position is the symbol of the record there.
pub record GoesWith (C : Coding) (bytes : ℕ) (positions records : List ℕ) (c : ℕ) (rebuilt : List ℕ) : Type 0 where
  pub symbols : ℕ → ℕ
  pub values : (j : ℕ) → j < columns C bytes → ValueAt C.ops C.needed (at positions) (λ i. given_symbol C bytes records i j) c (symbols j)
  pub laid : rebuilt ≡ record_with C bytes (issue_in records) symbols

-- What rebuild gives goes with the records that it was given; and from whatever cut made of a package it gives the record that
-- cut makes of it for any fitted cabinet, where the output is long enough.
pub record Rebuilds (C : Coding) (n bytes : ℕ) (positions records : List ℕ) (c : ℕ) : Type 0 where
  pub only : (out m : ℕ) → rebuild_answer C n bytes positions records c out ≡ Ok m → GoesWith C bytes positions records c (rebuilt C bytes positions records c)
  pub each : (pkg : List ℕ) (issue out : ℕ) → length pkg ≡ bytes → AreRecords C n pkg positions issue records → c < n → record_length C bytes ≤ out →
      (rebuild_answer C n bytes positions records c out ≡ Ok (record_length C bytes)) × IsRecord C pkg c issue (rebuilt C bytes positions records c)

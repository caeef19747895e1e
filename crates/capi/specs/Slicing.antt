-- What the C calls that cut and join answer and leave. An unknown field and a pair k, n that is no plan are refused first, with
-- 13. Assumes nothing.
use Rattle.std.specs.Prelude.{ℕ, List, length, ℤ, Result, OnOk}
use Rattle.base.specs.Answers.{leaves}
use Rattle.base.specs.Bytes.{over}
use Rattle.erasure.specs.declared.fault.SliceFault.{SliceFault}
use Rattle.erasure.specs.Records.{IsRecord}
use Rattle.erasure.specs.Formula.{record_of}
use Rattle.erasure.specs.Slices.{slice_number, cut_answer}
use Rattle.recovery.specs.Answers.{join_answer}
use Rattle.recovery.specs.Formula.{package_from}
use Rattle.recovery.specs.Joins.{Joins}
use Rattle.capi.specs.Calls.{negated, signed, by_field}

-- a length, or the number of the refusal's cause negated
abbrev pub slice_signed : Result ℕ SliceFault → ℤ
slice_signed = signed (λ fault. slice_number fault.cause)

-- the answer to a package of so many bytes, a cabinet, an issue and an output of so many bytes
abbrev pub cut_call : ℕ → ℕ → ℕ → ℕ → ℕ → ℕ → ℕ → ℤ
cut_call field k n bytes c issue out = by_field field k n (negated 13) (λ C. slice_signed (cut_answer C n bytes c issue out))

-- what the output holds then
abbrev pub cut_leaves : ℕ → ℕ → ℕ → List ℕ → ℕ → ℕ → List ℕ → List ℕ
cut_leaves field k n pkg c issue out =
    by_field field k n out (λ C. leaves (cut_answer C n (length pkg) c issue (length out)) out (over (record_of C pkg c issue) out))

-- what is cut is the cabinet's record
abbrev pub CutsExactly : ℕ → ℕ → ℕ → List ℕ → ℕ → ℕ → ℕ → Type 0
CutsExactly field k n pkg c issue out =
    by_field field k n (Unit {0}) (λ C. OnOk (cut_answer C n (length pkg) c issue out) (IsRecord C pkg c issue (record_of C pkg c issue)))

-- the answer to a package's length, positions, records and an output of so many bytes
abbrev pub join_call : ℕ → ℕ → ℕ → ℕ → List ℕ → List ℕ → ℕ → ℤ
join_call field k n bytes positions records out =
    by_field field k n (negated 13) (λ C. slice_signed (join_answer C n bytes positions records out))

-- what the output holds then
abbrev pub join_leaves : ℕ → ℕ → ℕ → ℕ → List ℕ → List ℕ → List ℕ → List ℕ
join_leaves field k n bytes positions records out =
    by_field field k n out (λ C. leaves (join_answer C n bytes positions records (length out)) out (over (package_from C bytes positions records) out))

-- the records that are joined are those which are cut of one package, and no others
abbrev pub JoinsExactly : ℕ → ℕ → ℕ → ℕ → List ℕ → List ℕ → Type 0
JoinsExactly field k n bytes positions records = by_field field k n (Unit {0}) (λ C. Joins C n bytes positions records)

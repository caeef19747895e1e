-- What join and rebuild answer, each refusal in its order. Assumes nothing.
use Rattle.std.specs.Prelude.{ℕ, ◌+◌, ◌*◌, ◌/◌, ◌^◌, Bool, cond, not, ◌&&◌, ltb, List, length, Some, None, Ok, Option, Result, ◌==◌, nat_lt}
use Rattle.base.specs.Answers.{refuse}
use Rattle.base.specs.Bytes.{le_value, part}
use Rattle.base.specs.Sizes.{misfit}
use Rattle.base.specs.Tests.{every}
use Rattle.algebra.specs.Polynomials.{at}
use Rattle.erasure.specs.declared.fault.SliceCause.TheVariants.{NoCabinet, RecordsMisfit, SymbolMisfit, PackageMisfit, OutputShort}
use Rattle.erasure.specs.declared.fault.SliceFault.{SliceFault}
use Rattle.erasure.specs.Records.{Coding, columns, issue_in, record_length, given_symbol}
use Rattle.erasure.specs.Slices.{fault_of}
use Rattle.recovery.specs.Formula.{worked_out}

-- k differing positions, all below n
abbrev pub positions_fit : ℕ → ℕ → List ℕ → Bool
positions_fit k n ps = length ps == k && every k (λ i. nat_lt (at ps i) n && every i (λ j. not (at ps i == at ps j)))

-- so many records end to end, of the due length and number and of one issue, not 0
abbrev pub head_fits : Coding → ℕ → List ℕ → ℕ → Bool
head_fits C bytes records place =
    (le_value (part records place 2) == record_length C bytes) && le_value (part records (place + 2) 2) == C.number
    && le_value (part records (place + 4) 2) == issue_in records

abbrev pub records_fit : Coding → ℕ → List ℕ → Bool
records_fit C bytes records =
    (length records == C.needed * record_length C bytes) && not (issue_in records == 0)
    && every C.needed (λ i. head_fits C bytes records (i * record_length C bytes))

-- each stored number of record i is a code, and of all records
abbrev pub record_codes : Coding → ℕ → List ℕ → ℕ → Bool
record_codes C bytes records i = every (columns C bytes) (λ j. ltb (given_symbol C bytes records i j) C.ops.size)

abbrev pub codes_fit : Coding → ℕ → List ℕ → Bool
codes_fit C bytes records = every C.needed (record_codes C bytes records)

-- each symbol that is worked out is one of a package: below 256^width, and 0 where the package has ended
abbrev pub data_fits : Coding → ℕ → List ℕ → List ℕ → Bool
data_fits C bytes positions records =
    every (columns C bytes) (λ j. every C.needed (λ i.
    nat_lt (worked_out C bytes positions records j i) (cond (nat_lt (j * C.needed + i) (bytes / C.width)) (256 ^ C.width) 1)))

-- the checks of a length, positions and records, and then what comes next
abbrev pub given_records : {T : Type 0} → Coding → ℕ → ℕ → List ℕ → List ℕ → Option ℕ → Result T SliceFault → Result T SliceFault
given_records C n bytes positions records named next =
    refuse (misfit bytes) (fault_of named PackageMisfit)
    (refuse (not (positions_fit C.needed n positions && records_fit C bytes records)) (fault_of named RecordsMisfit) next)

-- the checks of join that follow these
abbrev pub join_rest : Coding → ℕ → List ℕ → List ℕ → ℕ → Result ℕ SliceFault
join_rest C bytes positions records out =
    refuse (not (codes_fit C bytes records && data_fits C bytes positions records)) (fault_of None SymbolMisfit)
    (refuse (nat_lt out bytes) (fault_of None OutputShort)
    (Ok bytes))

abbrev pub join_answer : Coding → ℕ → ℕ → List ℕ → List ℕ → ℕ → Result ℕ SliceFault
join_answer C n bytes positions records out = given_records C n bytes positions records None (join_rest C bytes positions records out)

-- the checks of rebuild that follow these
abbrev pub rebuild_rest : Coding → ℕ → ℕ → List ℕ → ℕ → ℕ → Result ℕ SliceFault
rebuild_rest C n bytes records c out =
    refuse (not (nat_lt c n)) (fault_of (Some c) NoCabinet)
    (refuse (not (codes_fit C bytes records)) (fault_of (Some c) SymbolMisfit)
    (refuse (nat_lt out (record_length C bytes)) (fault_of (Some c) OutputShort)
    (Ok (record_length C bytes))))

abbrev pub rebuild_answer : Coding → ℕ → ℕ → List ℕ → List ℕ → ℕ → ℕ → Result ℕ SliceFault
rebuild_answer C n bytes positions records c out = given_records C n bytes positions records (Some c) (rebuild_rest C n bytes records c out)

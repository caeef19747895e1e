-- The refusals of cutting and joining, and what plan and cut answer, each refusal in its order. Assumes nothing.
use Rattle.std.specs.Prelude.{ℕ, ◌*◌, Bool, not, ◌&&◌, Some, None, Ok, Option, Result, ◌==◌, nat_le, nat_lt}
use Rattle.base.specs.Answers.{refuse}
use Rattle.base.specs.Sizes.{misfit}
use Rattle.erasure.specs.declared.fault.SliceCause.{SliceCause}
use Rattle.erasure.specs.declared.fault.SliceCause.TheVariants.{NoCabinet, RecordsMisfit, SymbolMisfit, PlanMisfit, PackageMisfit, IssueZero, OutputShort}
use Rattle.erasure.specs.declared.fault.SliceFault.{SliceFault}
use Rattle.erasure.specs.Records.{Coding, columns, record_length}

-- the number of each cause; its layer is 2, and a fault tells the cabinet that the call named, if any
abbrev pub slice_number : SliceCause → ℕ
slice_number NoCabinet = 9
slice_number RecordsMisfit = 11
slice_number SymbolMisfit = 12
slice_number PlanMisfit = 13
slice_number PackageMisfit = 16
slice_number IssueZero = 20
slice_number OutputShort = 23

abbrev pub fault_of : Option ℕ → SliceCause → SliceFault
fault_of named why = record { cause = why; cabinet = named }

-- the pairs that are plans
abbrev pub plan_fits : ℕ → ℕ → Bool
plan_fits k n = nat_le 1 k && nat_le k n && nat_le n 16

-- the answer to a package and working memory of so many bytes each: how many of them the slices take
abbrev pub spread_answer : Coding → ℕ → ℕ → Result ℕ SliceFault
spread_answer C bytes out =
    refuse (misfit bytes) (fault_of None PackageMisfit)
    (refuse (nat_lt out (C.needed * (columns C bytes * C.stored))) (fault_of None OutputShort)
    (Ok (C.needed * (columns C bytes * C.stored))))

-- the answer to a package of so many bytes, a cabinet, an issue and an output of so many bytes, where n cabinets are fitted
abbrev pub cut_answer : Coding → ℕ → ℕ → ℕ → ℕ → ℕ → Result ℕ SliceFault
cut_answer C n bytes c issue out =
    refuse (misfit bytes) (fault_of (Some c) PackageMisfit)
    (refuse (not (nat_lt c n)) (fault_of (Some c) NoCabinet)
    (refuse (issue == 0) (fault_of (Some c) IssueZero)
    (refuse (nat_lt out (record_length C bytes)) (fault_of (Some c) OutputShort)
    (Ok (record_length C bytes)))))

-- What a refusal of a row says. Assumes nothing.
use Rattle.std.specs.Prelude.{ℕ, Some, None}
use Rattle.rows.specs.declared.fault.RowCause.{RowCause}
use Rattle.rows.specs.declared.fault.RowCause.TheVariants.{NoCabinet, NoFile, OutOfReach, Condemned, Empty, SizeMisfit, BufferShort}
use Rattle.rows.specs.declared.fault.Fault.{Fault}

abbrev pub row_number : RowCause → ℕ
row_number NoCabinet = 1
row_number NoFile = 2
row_number OutOfReach = 3
row_number Condemned = 4
row_number Empty = 5
row_number SizeMisfit = 6
row_number BufferShort = 7

-- a refusal of a call that names a cabinet
abbrev pub cabinet_fault : {C : Type 0} → C → ℕ → Fault C
cabinet_fault why c = record { cause = why; cabinet = Some c; file = None }

-- a refusal of a call that names a cabinet and a file
abbrev pub slot_fault : {C : Type 0} → C → ℕ → ℕ → Fault C
slot_fault why c f = record { cause = why; cabinet = Some c; file = Some f }

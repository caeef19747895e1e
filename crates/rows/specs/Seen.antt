-- What a table shows of a row. Assumes nothing.
use Rattle.std.specs.Prelude.{ℕ, cond, ◌&&◌, length, Ok, Err, Result, nat_lt}
use Rattle.rows.specs.declared.fault.RowCause.{RowCause}
use Rattle.rows.specs.declared.fault.RowCause.TheVariants.{NoCabinet, NoFile, OutOfReach, Condemned, Empty, SizeMisfit, BufferShort}
use Rattle.rows.specs.declared.fault.Fault.{Fault}
use Rattle.rows.specs.declared.table.Cell.{Cell}
use Rattle.rows.specs.declared.table.Cell.TheVariants as cell
use Rattle.rows.specs.Model as row

-- what a refusal tells of a slot that was read
abbrev pub cause_cell : RowCause → Cell
cause_cell NoCabinet = cell.Hidden
cause_cell NoFile = cell.Hidden
cause_cell OutOfReach = cell.Hidden
cause_cell Condemned = cell.Condemned
cause_cell Empty = cell.Empty
cause_cell SizeMisfit = cell.Hidden
cause_cell BufferShort = cell.Hidden

-- what an answer tells of a slot that was read
abbrev pub cell_of : Result ℕ (Fault RowCause) → Cell
cell_of (Ok n) = cell.Holds n
cell_of (Err e) = cause_cell e.cause

abbrev pub slot_cell : row.Slot → Cell
slot_cell row.Empty = cell.Empty
slot_cell row.Condemned = cell.Condemned
slot_cell (row.Held bs) = cell.Holds (length bs)

-- what is seen of a slot: what it has, where its cabinet is in reach
abbrev pub seen : row.RowModel → ℕ → ℕ → Cell
seen m c f = cond (m.reach c && nat_lt f 8) (slot_cell (m.slot c f)) cell.Hidden

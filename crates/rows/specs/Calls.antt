-- What each call of a row answers, with its refusals in the order of their checks. Assumes nothing.
use Rattle.std.specs.Prelude.{ℕ, Bool, not, ◌||◌, length, Ok, Err, Result, ◌==◌, nat_le, nat_lt}
use Rattle.base.specs.Answers.{refuse}
use Rattle.rows.specs.declared.fault.RowCause.{RowCause}
use Rattle.rows.specs.declared.fault.RowCause.TheVariants as cause
use Rattle.rows.specs.declared.fault.Fault.{Fault}
use Rattle.rows.specs.Faults.{cabinet_fault, slot_fault}
use Rattle.rows.specs.Model.{RowModel, Slot, Empty, Condemned, Held}

-- a call that names a cabinet, and then what comes next
abbrev pub of_cabinet : {T : Type 0} → RowModel → ℕ → Result T (Fault RowCause) → Result T (Fault RowCause)
of_cabinet m c next = refuse (nat_le m.count c) (cabinet_fault cause.NoCabinet c) next

-- a call that names a cabinet and a file, and then what comes next
abbrev pub of_slot : {T : Type 0} → RowModel → ℕ → ℕ → Result T (Fault RowCause) → Result T (Fault RowCause)
of_slot m c f next = refuse (nat_le m.count c) (slot_fault cause.NoCabinet c f) (refuse (nat_le 8 f) (slot_fault cause.NoFile c f) next)

-- reach
abbrev pub reach_answer : RowModel → ℕ → Result Bool (Fault RowCause)
reach_answer m c = of_cabinet m c (Ok (m.reach c))

-- pull, plug and swap
abbrev pub cabinet_answer : RowModel → ℕ → Result Unit (Fault RowCause)
cabinet_answer m c = of_cabinet m c (Ok tt)

-- clear and condemn
abbrev pub slot_answer : RowModel → ℕ → ℕ → Result Unit (Fault RowCause)
slot_answer m c f = of_slot m c f (Ok tt)

-- a slot that is read into a buffer of n bytes
abbrev pub held_answer : Slot → ℕ → ℕ → ℕ → Result ℕ (Fault RowCause)
held_answer Empty c f n = Err (slot_fault cause.Empty c f)
held_answer Condemned c f n = Err (slot_fault cause.Condemned c f)
held_answer (Held bs) c f n = refuse (nat_lt n (length bs)) (slot_fault cause.BufferShort c f) (Ok (length bs))

-- read, into a buffer of n bytes
abbrev pub read_answer : RowModel → ℕ → ℕ → ℕ → Result ℕ (Fault RowCause)
read_answer m c f n = of_slot m c f (refuse (not (m.reach c)) (slot_fault cause.OutOfReach c f) (held_answer (m.slot c f) c f n))

-- write, of n bytes
abbrev pub write_answer : RowModel → ℕ → ℕ → ℕ → Result Unit (Fault RowCause)
write_answer m c f n = of_slot m c f
    (refuse (n == 0 || nat_lt m.room n) (slot_fault cause.SizeMisfit c f) (refuse (not (m.reach c)) (slot_fault cause.OutOfReach c f) (Ok tt)))

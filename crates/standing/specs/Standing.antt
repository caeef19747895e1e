-- Which cabinets stand for a file, and why the others do not. Assumes nothing.
use Rattle.std.specs.Prelude.{ℕ, Bool, true, false, cond, ◌&&◌, List, length, Some, None, Option, ◌==◌}
use Rattle.base.specs.Bytes.{le_value, part}
use Rattle.erasure.specs.declared.head.Head.{Head}
use Rattle.rows.specs.Model as row
use Rattle.standing.specs.declared.cause.Cause.{Cause}
use Rattle.standing.specs.declared.cause.Cause.TheVariants.{Away, Condemned, Empty, Old}

-- the record is the one due: its length is, and its head
abbrev pub is_due : Head → List ℕ → Bool
is_due due bs =
    (length bs == due.whole) && le_value (part bs 0 2) == due.whole && le_value (part bs 2 2) == due.number
    && le_value (part bs 4 2) == due.issue

-- why a slot in reach does not make its cabinet stand, or nothing where it does
abbrev pub slot_cause : Head → row.Slot → Option Cause
slot_cause due row.Condemned = Some Condemned
slot_cause due row.Empty = Some Empty
slot_cause due (row.Held bs) = cond (is_due due bs) None (Some Old)

-- why cabinet c does not stand for a file whose record is due: the first that holds of away, condemned, empty and old
abbrev pub cause_of : row.RowModel → Head → ℕ → ℕ → Option Cause
cause_of m due f c = cond (m.reach c) (slot_cause due (m.slot c f)) (Some Away)

-- the same cause, or none twice
abbrev pub same_cause : Option Cause → Option Cause → Bool
same_cause None None = true
same_cause (Some Away) (Some Away) = true
same_cause (Some Condemned) (Some Condemned) = true
same_cause (Some Empty) (Some Empty) = true
same_cause (Some Old) (Some Old) = true
same_cause _ _ = false

-- cabinet c stands
abbrev pub stands : row.RowModel → Head → ℕ → ℕ → Bool
stands m due f c = same_cause (cause_of m due f c) None

-- What a refusal of a site says. Assumes nothing.
use Rattle.std.specs.Prelude.{ℕ, Ok, Err, Option, Result}
use Rattle.aont.specs.Seals.{seal_number}
use Rattle.erasure.specs.Slices.{slice_number}
use Rattle.rows.specs.declared.fault.Fault.{Fault}
use Rattle.rows.specs.Faults.{row_number}
use Rattle.site.specs.declared.fault.SiteCause.{SiteCause}
use Rattle.site.specs.declared.fault.SiteCause.TheVariants.{Row, Slice, Seal, TooFew, NoCabinet, RoomShort, NoFile, IssueOld, NotCurrent, MemoryShort, OutputShort, MarkClosed}

-- the number of each cause; a fault of a lower layer keeps its own
abbrev pub site_number : SiteCause → ℕ
site_number (Row fault) = row_number fault.cause
site_number (Slice fault) = slice_number fault.cause
site_number (Seal fault) = seal_number fault
site_number (TooFew absent) = 8
site_number NoCabinet = 9
site_number RoomShort = 10
site_number NoFile = 19
site_number (IssueOld last) = 20
site_number NotCurrent = 21
site_number MemoryShort = 22
site_number OutputShort = 23
site_number MarkClosed = 24

-- the layer that refused
abbrev pub site_layer : SiteCause → ℕ
site_layer (Row fault) = 1
site_layer (Slice fault) = 2
site_layer (Seal fault) = 3
site_layer (TooFew absent) = 4
site_layer NoCabinet = 4
site_layer RoomShort = 4
site_layer NoFile = 4
site_layer (IssueOld last) = 4
site_layer NotCurrent = 4
site_layer MemoryShort = 4
site_layer OutputShort = 4
site_layer MarkClosed = 4

-- an answer whose refusal also tells the cabinet and the file that the call named
abbrev pub named : {T : Type 0} → Option ℕ → Option ℕ → Result T SiteCause → Result T (Fault SiteCause)
named c f (Ok x) = Ok x
named c f (Err why) = Err (record { cause = why; cabinet = c; file = f })

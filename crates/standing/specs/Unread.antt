-- What the code makes of a refused read: a word of private contracts, which nobody has to believe. Assumes nothing.
use Rattle.rows.specs.declared.fault.RowCause.{RowCause}
use Rattle.rows.specs.declared.fault.RowCause.TheVariants as row
use Rattle.standing.specs.declared.cause.Cause.{Cause}
use Rattle.standing.specs.declared.cause.Cause.TheVariants.{Condemned, Empty}

abbrev pub unread_cause : RowCause → Cause
unread_cause row.NoCabinet = Empty
unread_cause row.NoFile = Empty
unread_cause row.OutOfReach = Empty
unread_cause row.Condemned = Condemned
unread_cause row.Empty = Empty
unread_cause row.SizeMisfit = Empty
unread_cause row.BufferShort = Empty

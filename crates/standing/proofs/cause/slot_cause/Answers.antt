use Rattle.standing.proofs.Unread.{unread_is}
use Rattle.standing.proofs.cause.slot_cause.Goals as goal

pub returns-in-Err : goal.returns-in-Err
returns-in-Err g c =
    let row = c.args.row.now in
    unread_is (g.R.ReadRow.model row) (g.R.ReadRow.sound row) c.args.due c.args.cabinet c.args.file c.in-Err.fault c.requires c.from.result c.read.result
    c.from.ensures c.read.ensures.answers c.in-Err.is

use Rattle.erasure.specs.Records.{coding}
use Rattle.site.proofs.Puts.{record_put}
use Rattle.site.proofs.putting.write_at.Goals as goal

pub returns-in-Ok : goal.returns-in-Ok
returns-in-Ok g c =
    let f = g.F.Field in
    let row = c.args.row.now in
    record_put (coding f.ops f.width f.stored f.number c.args.plan.now.k) c.args.size c.args.slices.now c.args.cabinet c.args.issue c.args.plan.now.n c.args.file
    c.in-Ok.whole (g.R.ReadRow.model row) (g.R.ReadRow.model c.write.new.self) c.args.out.now c.cut_spread.new.out c.cut_spread.result c.write.result
    (g.R.ReadRow.sound row) c.requires.near c.requires.there c.requires.room c.in-Ok.is c.cut_spread.ensures.answers c.cut_spread.ensures.fills c.write.ensures.answers
    c.write.ensures.becomes

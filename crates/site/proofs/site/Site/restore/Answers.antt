use Rattle.std.proofs.Common.{◌*◌, ◌≤◌, length, drop, ◌∙◌, arith, rules}
use Rattle.site.specs.Whole.{model_of}
use Rattle.site.proofs.Opened.{package-within, records-within, restored}
use Rattle.site.proofs.site.Site.restore.Goals as goal

pub slice_bounds-open-end : goal.slice_bounds-open-end
slice_bounds-open-end g c =
    let S = model_of g.R.ReadRow g.F.Field g.C.Cipher c.args.self.now in
    let told = c.in_ok-lowest.ensures in
    let end : c.needed-k.result * c.from-whole.result ≤ length c.collect.new.out =
    omega (
      arith,
      records-within S (g.R.ReadRow.sound c.args.self.now.row) g.met.F.Field.widths c.args.self.now.plan.fits c.args.file told.answers c.args.last c.requires.same
          c.due.result c.due.ensures c.needed-k.result c.from-whole.result c.length_of_package-bytes.result c.needed-k.ensures c.from-whole.ensures c.length_of_package-bytes.ensures,
    ) in
    search rules

pub slice_bounds-open-end-2 : goal.slice_bounds-open-end-2
slice_bounds-open-end-2 g c =
    let S = model_of g.R.ReadRow g.F.Field g.C.Cipher c.args.self.now in
    let told = c.in_ok-lowest.ensures in
    let end : c.length_of_package-bytes.result ≤ length c.args.buffers.now.sealed.now =
    omega (
      arith,
      package-within S (g.R.ReadRow.sound c.args.self.now.row) g.met.F.Field.widths c.args.self.now.plan.fits c.args.file told.answers c.args.last c.requires.same
          c.due.result c.due.ensures c.needed-k.result c.from-whole.result c.length_of_package-bytes.result c.needed-k.ensures c.from-whole.ensures c.length_of_package-bytes.ensures,
    ) in
    search rules

pub returns : goal.returns
returns g c =
    let S = model_of g.R.ReadRow g.F.Field g.C.Cipher c.args.self.now in
    let told = c.in_ok-lowest.ensures in
    let done = restored S (g.R.ReadRow.sound c.args.self.now.row) g.met.F.Field.widths c.args.self.now.plan.fits c.args.file told.answers c.args.last c.requires.same
    c.due.result c.due.ensures c.needed-k.result c.from-whole.result c.length_of_package-bytes.result c.needed-k.ensures c.from-whole.ensures c.length_of_package-bytes.ensures
    c.positions.result.now c.collect.new.out c.args.buffers.now.records.now c.args.buffers.now.sealed.now c.args.buffers.now.opened.now c.open.new.opened (drop 4092 c.args.buffers.now.opened.now) c.open.result
    (c.positions.ensures ∙ told.positions) told.records (omega arith) (omega arith) c.open.ensures.answers c.open.ensures.opens in
    record { answers = done.0; restores = done.1 }

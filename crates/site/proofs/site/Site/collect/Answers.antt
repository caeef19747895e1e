use Rattle.std.proofs.Common.{length, sym, ap, ◌∙◌, arith}
use Rattle.site.specs.Whole.{model_of}
use Rattle.site.proofs.Collected.{collected, records-bound}
use Rattle.site.proofs.site.Site.collect.Goals as goal

pub returns : goal.returns
returns g c =
    let S = model_of g.R.ReadRow g.F.Field g.C.Cipher c.args.self.now in
    let f = c.args.file in
    let plan = c.args.self.now.plan.fits in
    let places = c.positions-2.result.now in
    let done = collected S plan.2 f c.needed-k.result c.fitted-n.result c.args.last c.due-due.result places c.requires.same c.needed-k.ensures c.fitted-n.ensures c.due-due.ensures
    (c.positions-2.ensures ∙ c.lowest_standing-lowest.ensures) (omega (arith, ap length c.positions-2.ensures, ap length c.positions.ensures, c.if-positions-k.false))
    c.args.out.now c.gather.new.out c.from.result c.from.ensures (records-bound S f g.met.F.Field.widths plan.0 (omega (arith, plan))) (omega arith) c.gather.ensures.records in
    record { answers = done.0; positions = sym c.positions-2.ensures ∙ done.1; records = done.2 }

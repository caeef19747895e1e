use Rattle.std.proofs.Common.{Ok, sym, ap, ◌∙◌}
use Rattle.base.specs.Answers.{pass}
use Rattle.erasure.specs.Records.{coding}
use Rattle.site.specs.declared.fault.SiteCause.TheVariants.{Slice}
use Rattle.site.proofs.Rebuilding.{rewritten}
use Rattle.site.proofs.repairing.rewrite.Goals as goal

pub returns : goal.returns
returns g c =
    let f = g.F.Field in
    let C = coding f.ops f.width f.stored f.number c.args.source.now.plan.now.k in
    let row = c.args.row.now in
    let ok = c.in_ok-rebuild.was in
    record {
      answers = sym (ap (λ r. pass Slice r (λ _. Ok tt)) (sym c.rebuild.ensures.answers ∙ ok));
      becomes = rewritten C c.args.source.now.plan.now.n c.args.source.now.bytes c.args.source.now.positions.now c.args.source.now.records.now (g.R.ReadRow.model row) (g.R.ReadRow.sound row) c.args.cabinet
          c.args.file c.requires.there c.requires.near c.args.out.now c.requires.due c.requires.room c.in_ok-rebuild.field-0 c.rebuild.new.out (g.R.ReadRow.model c.write.new.self)
          c.rebuild.result c.write.result c.rebuild.ensures.answers ok c.rebuild.ensures.fills c.write.ensures.answers c.write.ensures.becomes;
    }

use Rattle.std.proofs.Common.{length}
use Rattle.erasure.specs.Records.{coding}
use Rattle.recovery.specs.Answers.{join_answer}
use Rattle.recovery.specs.Formula.{package_from}
use Rattle.site.proofs.Opened.{left_whole}
use Rattle.site.proofs.getting.join_over.Goals as goal

pub returns : goal.returns
returns g c =
    let f = g.F.Field in
    let C = coding f.ops f.width f.stored f.number c.args.plan.now.k in
    let bytes = length c.args.sealed.now in
    let positions = c.args.positions.now in
    let records = c.args.records.now in
    record {
      answers = c.join.ensures.answers;
      fills = left_whole c.join.result (join_answer C c.args.plan.now.n bytes positions records bytes) c.args.sealed.now c.join.new.out (package_from C bytes positions records)
          c.join.ensures.answers c.join.ensures.fills (λ n ok. (c.join.ensures.exact.only bytes n ok).0);
    }

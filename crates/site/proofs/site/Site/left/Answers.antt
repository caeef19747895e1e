use Rattle.std.proofs.Common.{not, ◌&&◌, ltb, sym, arith}
use Rattle.standing.proofs.Members.{set_next, set_none}
use Rattle.site.specs.Model.{fitted, kept, standing}
use Rattle.site.specs.Whole.{model_of}
use Rattle.site.proofs.site.Site.left.Goals as goal

pub loop-file-init : goal.loop-file-init
loop-file-init g c =
    let S = model_of g.R.ReadRow g.F.Field g.C.Cipher c.args.self.now in
    sym (set_none (λ f. (kept S f).current && not (ltb c.args.cabinet (fitted S) && standing S f c.args.cabinet)))

pub loop-file-preserved : goal.loop-file-preserved
loop-file-preserved g c =
    let S = model_of g.R.ReadRow g.F.Field g.C.Cipher c.args.self.now in
    set_next (λ f. (kept S f).current && not (ltb c.args.cabinet (fitted S) && standing S f c.args.cabinet)) c.loop-file.file c.loop-file.left c.with_member-left.result
    c.is_left.result (omega (arith, c.loop-file-test.true)) c.loop-file.invariant c.is_left.ensures c.with_member-left.ensures

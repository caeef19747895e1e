use Rattle.std.proofs.Common.{◌≡◌, true, false, is_none, sym, ap, ◌∙◌, arith, rules}
use Rattle.standing.specs.Sets.{set_of}
use Rattle.site.specs.Model.{with_row}
use Rattle.site.specs.Orders.{refilled_row, served}
use Rattle.site.specs.Whole.{model_of}
use Rattle.site.proofs.Refills.{refilling_done, refilling_next, refilling_none, short_set, short_site}
use Rattle.site.proofs.site.Site.refill_all.Goals as goal

pub loop-file-init : goal.loop-file-init
loop-file-init g c = refilling_none (model_of g.R.ReadRow g.F.Field g.C.Cipher c.args.self.now) c.args.cabinet false

pub loop-file-preserved : goal.loop-file-preserved
loop-file-preserved g c =
    let model = model_of g.R.ReadRow g.F.Field g.C.Cipher in
    let l = c.loop-file in
    let did = c.refill_file-is_written in
    refilling_next (model c.args.self.now) c.args.cabinet false l.file l.written c.with_member-written.result (model l.self) (model did.new.self) did.result (omega (arith, c.loop-file-test.true)) l.invariant
    did.ensures.answers did.ensures.becomes c.with_member-written.ensures

pub returns-in_default : goal.returns-in_default
returns-in_default g c =
    let S = model_of g.R.ReadRow g.F.Field g.C.Cipher c.args.self.now in
    let gone : is_none c.args.buffers ≡ true = search rules in
    record {
      answers = short_set S c.args.cabinet ∙ ap (λ s. set_of (served S c.args.cabinet s) 8) (sym gone);
      becomes = short_site S c.args.cabinet ∙ ap (λ s. with_row S (refilled_row S c.args.cabinet s)) (sym gone);
    }

pub returns : goal.returns
returns g c =
    let model = model_of g.R.ReadRow g.F.Field g.C.Cipher in
    let S = model c.args.self.now in
    let l = c.loop-file in
    let p = refilling_done S c.args.cabinet false l.file l.written (model l.self) (omega (arith, c.loop-file-test.false, l.auto.file-end)) l.invariant in
    let there : is_none c.args.buffers ≡ false = search rules in
    record {
      answers = p.set ∙ ap (λ s. set_of (served S c.args.cabinet s) 8) (sym there);
      becomes = p.site ∙ ap (λ s. with_row S (refilled_row S c.args.cabinet s)) (sym there);
    }

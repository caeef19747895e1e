use Rattle.std.proofs.Common.{◌≡◌, ◌-◌, ◌*◌, ◌≤◌, length, take, sym, ap, ◌∙◌, arith, rules}
use Rattle.aont.specs.Package.{package_length}
use Rattle.site.specs.Model.{due_for, needed, positions, records, whole}
use Rattle.site.specs.Whole.{model_of}
use Rattle.site.proofs.Repairs.{are_enough, collected, is_kept, within}
use Rattle.site.proofs.Refills.{refill_left, refill_told, spread_end}
use Rattle.site.proofs.site.Site.refill_file.Goals as goal

pub slice_bounds-source-end : goal.slice_bounds-source-end
slice_bounds-source-end g c =
    let S = model_of g.R.ReadRow g.F.Field g.C.Cipher c.args.self.now in
    let f = c.args.file in
    let here = sym c.current.ensures ∙ c.in-Ok.is in
    let more = are_enough S f c.collect.result c.in-Ok-collect.lowest c.collect.ensures.answers c.in-Ok-collect.is in
    let got = c.in-Ok-collect.ensures in
    let due = c.due-due.ensures ∙ ap (due_for S.fit) (is_kept S f c.in-Ok.last here) in
    let all : c.needed-k.result * c.from-whole.result ≡ needed S * whole S f =
    ap (λ k. k * c.from-whole.result) c.needed-k.ensures ∙ ap (λ w. needed S * w) (c.from-whole.ensures ∙ ap (λ h. h.whole) due) in
    let end : c.needed-k.result * c.from-whole.result ≤ length c.collect.new.out = omega (
      arith,
      all,
      within S f (g.R.ReadRow.sound c.args.self.now.row) (omega (arith, c.args.self.now.plan.fits)) more c.args.buffers.now.records.now c.collect.new.out got.records,
    ) in
    search rules

pub slice_bounds-rewrite-end : goal.slice_bounds-rewrite-end
slice_bounds-rewrite-end g c =
    let S = model_of g.R.ReadRow g.F.Field g.C.Cipher c.args.self.now in
    let f = c.args.file in
    let last = c.in-Ok.last in
    let here = sym c.current.ensures ∙ c.in-Ok.is in
    let end : c.from-whole.result ≤ length c.args.buffers.now.spread.now =
    spread_end S c.args.cabinet f last here c.due-due.result (c.due-due.ensures ∙ ap (due_for S.fit) (is_kept S f last here))
    (sym c.takes.ensures ∙ c.if-not-takes.false) (g.R.ReadRow.sound c.args.self.now.row) c.args.buffers.now.spread.now (omega arith) c.from-whole.result c.from-whole.ensures in
    search rules

pub returns : goal.returns
returns g c =
    let S = model_of g.R.ReadRow g.F.Field g.C.Cipher c.args.self.now in
    let sound = g.R.ReadRow.sound c.args.self.now.row in
    let f = c.args.file in
    let last = c.in-Ok.last in
    let here = sym c.current.ensures ∙ c.in-Ok.is in
    let more = are_enough S f c.collect.result c.in-Ok-collect.lowest c.collect.ensures.answers c.in-Ok-collect.is in
    let got = c.in-Ok-collect.ensures in
    let k = c.needed-k.result in
    let w = c.from-whole.result in
    let out = c.collect.new.out in
    let bytes = c.length_of_package.ensures ∙ ap (λ q. package_length q.size) (is_kept S f last here) in
    let due = c.due-due.ensures ∙ ap (due_for S.fit) (is_kept S f last here) in
    let can = sym c.takes.ensures ∙ c.if-not-takes.false in
    let ps : c.positions.result.now ≡ positions S f = c.positions.ensures ∙ got.positions in
    let all : k * w ≡ needed S * whole S f = ap (λ q. q * w) c.needed-k.ensures ∙ ap (λ q. needed S * q) (c.from-whole.ensures ∙ ap (λ h. h.whole) due) in
    let size : k * w - 0 ≡ needed S * whole S f = omega (arith, all) in
    let rs : take (k * w - 0) out ≡ records S f =
    collected S f sound (omega (arith, c.args.self.now.plan.fits)) more c.args.buffers.now.records.now out got.records (k * w - 0) size in
    record {
      answers = refill_told S c.args.cabinet f last here c.due-due.result due can sound c.args.buffers.now.spread.now (omega arith) w c.from-whole.ensures more
          c.length_of_package.result c.positions.result.now (take (k * w - 0) out) bytes ps rs c.rewrite.result c.is_ok.result c.is_ok.ensures.value c.rewrite.ensures.answers;
      becomes = refill_left S c.args.cabinet f last here c.due-due.result due can sound c.args.buffers.now.spread.now (omega arith) w c.from-whole.ensures more
          c.length_of_package.result c.positions.result.now (take (k * w - 0) out) bytes ps rs c.rewrite.result c.is_ok.result c.is_ok.ensures.value
          (g.R.ReadRow.model c.rewrite.new.row) c.rewrite.ensures.becomes;
    }

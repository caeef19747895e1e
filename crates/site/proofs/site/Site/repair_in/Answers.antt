use Rattle.std.proofs.Common.{◌≡◌, false, is_none, ◌-◌, ◌*◌, ◌≤◌, length, take, sym, ap, ◌∙◌, arith, rules}
use Rattle.aont.specs.Package.{package_length}
use Rattle.site.specs.Model.{due_for, needed, positions, records, whole}
use Rattle.site.specs.Whole.{model_of}
use Rattle.site.proofs.Repairs.{are_enough, collected, is_kept, repair_left, repair_told, within}
use Rattle.site.proofs.site.Site.repair_in.Goals as goal

pub slice_bounds-source-end : goal.slice_bounds-source-end
slice_bounds-source-end g c =
    let S = model_of g.R.ReadRow g.F.Field g.C.Cipher c.args.self.now in
    let f = c.args.file in
    let here = sym c.current.ensures ∙ c.in_ok-last.was in
    let more = are_enough S f c.collect.result c.in_ok-lowest.lowest c.collect.ensures.answers c.in_ok-lowest.was in
    let got = c.in_ok-lowest.ensures in
    let due = c.due-due.ensures ∙ ap (due_for S.fit) (is_kept S f c.in_ok-last.last here) in
    let all : c.needed-k.result * c.from.result ≡ needed S * whole S f =
    ap (λ k. k * c.from.result) c.needed-k.ensures ∙ ap (λ w. needed S * w) (c.from.ensures ∙ ap (λ h. h.whole) due) in
    let end : c.needed-k.result * c.from.result ≤ length c.collect.new.out = omega (
      arith,
      all,
      within S f (g.R.ReadRow.sound c.args.self.now.row) (omega (arith, c.args.self.now.plan.fits)) more _ c.collect.new.out got.records,
    ) in
    search rules

pub returns : goal.returns
returns g c =
    let S = model_of g.R.ReadRow g.F.Field g.C.Cipher c.args.self.now in
    let f = c.args.file in
    let last = c.in_ok-last.last in
    let here = sym c.current.ensures ∙ c.in_ok-last.was in
    let more = are_enough S f c.collect.result c.in_ok-lowest.lowest c.collect.ensures.answers c.in_ok-lowest.was in
    let got = c.in_ok-lowest.ensures in
    let k = c.needed-k.result in
    let out = c.collect.new.out in
    let bytes = c.length_of_package.ensures ∙ ap (λ q. package_length q.size) (is_kept S f last here) in
    let due = c.due-due.ensures ∙ ap (due_for S.fit) (is_kept S f last here) in
    let ps : c.positions.result.now ≡ positions S f = c.positions.ensures ∙ got.positions in
    let all : k * c.from.result ≡ needed S * whole S f = ap (λ q. q * c.from.result) c.needed-k.ensures ∙ ap (λ w. needed S * w) (c.from.ensures ∙ ap (λ h. h.whole) due) in
    let size : k * c.from.result - 0 ≡ needed S * whole S f = omega (arith, all) in
    let rs : take (k * c.from.result - 0) out ≡ records S f =
    collected S f (g.R.ReadRow.sound c.args.self.now.row) (omega (arith, c.args.self.now.plan.fits)) more _ out got.records (k * c.from.result - 0) size in
    let there : is_none c.args.buffers ≡ false = search rules in
    record {
      answers = repair_told S f last here more (is_none c.args.buffers) there c.length_of_package.result c.positions.result.now (take (k * c.from.result - 0) out)
          c.due-due.result bytes ps rs due c.rewrite_lacking.result (g.R.ReadRow.model c.rewrite_lacking.new.row) c.rewrite_lacking.ensures.answers;
      becomes = repair_left S f last here more (is_none c.args.buffers) there c.length_of_package.result c.positions.result.now (take (k * c.from.result - 0) out)
          c.due-due.result bytes ps rs due c.rewrite_lacking.result (g.R.ReadRow.model c.rewrite_lacking.new.row) c.rewrite_lacking.ensures.becomes;
    }

use Rattle.std.proofs.Common.{◌/◌, length, take, ap, ◌∙◌}
use Rattle.base.specs.Bytes.{over}
use Rattle.algebra.specs.Slices.{combined}
use Rattle.erasure.proofs.combining.Sources.symbols_at.Goals as goal

pub returns : goal.returns
returns g c =
    let f = g.F.Field in
    let out = c.args.out.now in
    let from = c.args.self.now in
    let own = ap (λ n. take n c.weights_at-all.result) c.needed.ensures ∙ c.weights_at-all.ensures in
    c.combine.ensures ∙ ap (λ ws. over (combined f.ops f.stored ws from.slices.now from.stride (length out / f.stored)) out) own

use Rattle.std.proofs.Common.{◌≡◌, ℕ, ◌<◌, min, length, ap, ◌∙◌, arith}
use Rattle.std.proofs.lemmas.List.{get_or-take, length-take}
use Rattle.algebra.specs.Polynomials.{at}
use Rattle.algebra.specs.Lagrange.{weight}
use Rattle.algebra.proofs.Filling.{mapped_more, mapped_all, mapped_at}
use Rattle.algebra.proofs.ThroughPoints.{weights_value}
use Rattle.algebra.proofs.interpolation.weights.Goals as goal

pub loop-j-preserved : goal.loop-j-preserved
loop-j-preserved g c =
    let ps = c.args.points.now in
    let j = c.loop-j.j in
    let own : ℕ → ℕ = λ p. weight g.F.Field.ops (length ps) (at ps) p c.args.x in
    let long = length-take c.min-n.result ps in
    let within : j < length ps = omega (arith, long) in
    let room : j < length c.args.weights.now = omega (arith, long) in
    let same : c.weight.result ≡ own (at ps j) = c.weight.ensures ∙ ap own (get_or-take c.min-n.result ps j 0 (omega (arith, long))) in
    mapped_more own ps c.args.weights.now c.loop-j.weights j _ within room c.loop-j.invariant same

pub returns : goal.returns
returns g c =
    let f = g.F.Field.ops in
    let ps = c.args.points.now in
    let ws = c.args.weights.now in
    let own : ℕ → ℕ = λ p. weight f (length ps) (at ps) p c.args.x in
    let last : c.loop-j.j ≡ min (length ps) (length ws) = omega (arith, length-take c.min-n.result ps) in
    let whole = mapped_all own ps ws c.loop-j.weights c.loop-j.j last c.loop-j.invariant in
    record {
      fills = whole;
      value = λ enough p hx vs codes. weights_value f g.met.F.Field.lawful (length ps) (at ps) p (at c.loop-j.weights) vs codes c.args.x hx
          (λ i hi. ap (λ xs. at xs i) whole ∙ mapped_at own ps ws i enough hi);
    }

use Rattle.std.proofs.Common.{◌≡◌, length, sym, subst, add-one, arith}
use Rattle.algebra.specs.Polynomials.{at, ValueAt}
use Rattle.algebra.specs.Lagrange.{lagrange}
use Rattle.algebra.proofs.ThroughPoints.{formula_value}
use Rattle.algebra.proofs.interpolation.interpolate.Goals as goal

pub loop-j-preserved : goal.loop-j-preserved
loop-j-preserved g c = rw add-one (cc)

pub returns : goal.returns
returns g c =
    let f = g.F.Field.ops in
    let k = length c.args.points.now in
    let ps = at c.args.points.now in
    let vs = at c.args.values.now in
    let last : c.loop-j.j ≡ k = omega arith in
    let found : c.loop-j.sum ≡ lagrange f k ps vs c.args.x = rw last at c.loop-j.invariant in
    record {
      formula = found;
      value = λ p codes hx. subst (ValueAt f k ps vs c.args.x) (sym found) (formula_value f g.met.F.Field.lawful k ps p vs codes c.args.x hx);
    }

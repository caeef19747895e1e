use Rattle.std.proofs.Common.{arith, rules}
use Rattle.std.proofs.lemmas.List.FromFn.{fill_by_all}
use Rattle.algebra.specs.Polynomials.{at}
use Rattle.erasure.proofs.Points.{made_at}
use Rattle.erasure.proofs.combining.points_of.Goals as goal

pub returns : goal.returns
returns c =
    let made = c.from_fn.ensures.items in
    fill_by_all (at c.args.positions.now) c.from_fn.result 16 0 made.long
    (λ k h. made_at _ _ (at c.args.positions.now) (λ i y q r. search rules) c.from_fn.result 16 0 made.each k (omega arith) (omega arith))

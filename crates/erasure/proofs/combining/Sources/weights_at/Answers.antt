use Rattle.std.proofs.Common.{◌≡◌, ℕ, List, length, take, replicate, ◌∙◌, arith}
use Rattle.std.proofs.lemmas.List.{length-take}
use Rattle.algebra.specs.Polynomials.{at}
use Rattle.erasure.specs.Whole.{coding_of}
use Rattle.erasure.proofs.Points.{weights_of, first_points}
use Rattle.erasure.proofs.combining.Sources.weights_at.Goals as goal

pub returns : goal.returns
returns g c =
    let C = coding_of g.F.Field c.args.plan.now in
    let plan = c.args.plan.now.fits in
    let k = c.needed-k.result in
    let x = c.args.x in
    let points = c.points_of-points.result in
    let zeros : List ℕ = take k (replicate 16 0) in
    let few : length zeros ≡ C.needed = length-take k (replicate 16 0) ∙ omega (arith, plan, c.needed-k.ensures) in
    let count : length (take k points) ≡ C.needed = length-take k points ∙ omega (arith, plan, c.needed-k.ensures) in
    weights_of C x (take k points) c.weights.new.weights _ zeros count few c.weights.ensures.fills
    ∙ first_points C x g.met.F.Field.lawful (omega (arith, plan)) (at c.args.self.now.positions.now) k points c.needed-k.ensures c.points_of-points.ensures

use Rattle.algebra.proofs.ThroughPoints.{one_polynomial}
use Rattle.algebra.proofs.interpolation.one_polynomial.Goals as goal

pub returns : goal.returns
returns g c = one_polynomial g.F.Field.ops g.met.F.Field.lawful

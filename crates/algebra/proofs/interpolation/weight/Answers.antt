use Rattle.std.proofs.Common.{refl, add-one}
use Rattle.algebra.specs.Lagrange.{weight}
use Rattle.algebra.proofs.interpolation.weight.Goals as goal

pub loop-q-init : goal.loop-q-init
unfolding weight
loop-q-init g c = refl

pub loop-q-preserved : goal.loop-q-preserved
unfolding weight
loop-q-preserved g c = rw add-one (cc)

use Rattle.standing.specs.Sets.{set_of}
use Rattle.std.proofs.Common.{refl}
use Rattle.standing.proofs.sets.survey_of.Goals as goal

pub loop-c-init : goal.loop-c-init
unfolding set_of
loop-c-init g c = refl

use Rattle.std.proofs.Common.{◌≡◌}
use Rattle.standing.specs.Sets.{survey_of}
use Rattle.standing.proofs.sets.survey_of.Given as goal

abbrev pub invariant-loop-c : goal.invariant-loop-c
invariant-loop-c g l = l.survey ≡ survey_of (g.R.ReadRow.model l.row) l.due l.file l.c

use Rattle.std.proofs.Common.{◌≡◌}
use Rattle.standing.specs.Sets.{away_of}
use Rattle.standing.proofs.sets.away.Given as goal

abbrev pub invariant-loop-c : goal.invariant-loop-c
invariant-loop-c g l = l.set ≡ away_of (g.R.ReadRow.model l.row) l.c

use Rattle.std.proofs.Common.{◌≡◌}
use Rattle.standing.specs.Sets.{lowest}
use Rattle.standing.specs.Standing.{stands}
use Rattle.standing.proofs.lowest.lowest_standing.Given as goal

abbrev pub invariant-loop-c : goal.invariant-loop-c
invariant-loop-c g l = l.lowest ≡ lowest l.k (stands (g.R.ReadRow.model l.row) l.due l.file) l.c

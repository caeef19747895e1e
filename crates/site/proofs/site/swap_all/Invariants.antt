use Rattle.std.proofs.Common.{◌≡◌}
use Rattle.site.proofs.Rounds.{swapped}
use Rattle.site.proofs.site.swap_all.Given as goal

abbrev pub invariant-loop-c : goal.invariant-loop-c
invariant-loop-c g l = g.R.ReadRow.model l.row ≡ swapped (g.R.ReadRow.model l.initial.row) l.c

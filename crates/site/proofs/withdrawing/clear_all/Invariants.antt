use Rattle.std.proofs.Common.{◌≡◌}
use Rattle.rows.specs.Model.{Empty}
use Rattle.site.proofs.Rounds.{changed}
use Rattle.site.proofs.withdrawing.clear_all.Given as goal

abbrev pub invariant-loop-c : goal.invariant-loop-c
invariant-loop-c g l = g.R.ReadRow.model l.row ≡ changed (g.R.ReadRow.model l.initial.row) l.file (λ d. Empty) l.c

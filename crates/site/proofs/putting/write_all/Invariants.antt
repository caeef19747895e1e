use Rattle.std.proofs.Common.{◌≡◌}
use Rattle.erasure.specs.Records.{coding}
use Rattle.erasure.specs.Formula.{record_from}
use Rattle.rows.specs.Model.{Held}
use Rattle.site.proofs.Rounds.{changed}
use Rattle.site.proofs.putting.write_all.Given as goal

abbrev pub invariant-loop-c : goal.invariant-loop-c
invariant-loop-c g l =
    let f = g.F.Field in
    g.R.ReadRow.model l.row ≡ changed (g.R.ReadRow.model l.initial.row) l.file (λ d. Held (record_from (coding f.ops f.width f.stored f.number l.plan.k) l.size l.slices d l.issue)) l.c

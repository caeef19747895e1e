use Rattle.erasure.specs.Records.{coding}
use Rattle.site.proofs.Rewriting.{Round}
use Rattle.site.proofs.repairing.rewrite_lacking.Given as goal

abbrev pub invariant-loop-c : goal.invariant-loop-c
invariant-loop-c g l =
    let f = g.F.Field in
    Round (coding f.ops f.width f.stored f.number l.source.plan.now.k) l.source.plan.now.n l.source.bytes l.source.positions.now l.source.records.now l.due l.file (g.R.ReadRow.model l.initial.row)
    l.c l.count (g.R.ReadRow.model l.row)

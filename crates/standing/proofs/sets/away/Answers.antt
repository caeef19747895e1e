use Rattle.std.proofs.Common.{not, sym, arith}
use Rattle.standing.proofs.Members.{set_next_not, set_none}
use Rattle.standing.proofs.sets.away.Goals as goal

pub loop-c-init : goal.loop-c-init
loop-c-init g c = sym (set_none (λ x. not ((g.R.ReadRow.model c.args.row.now).reach x)))

pub loop-c-preserved : goal.loop-c-preserved
loop-c-preserved g c =
    set_next_not (g.R.ReadRow.model c.args.row.now).reach c.loop-c.c c.loop-c.set c.with_member-set.result c.in_reach.result (omega arith) c.loop-c.invariant c.in_reach.ensures
    c.with_member-set.ensures

use Rattle.std.proofs.Common.{◌+◌, ◌*◌}
use Rattle.erasure.specs.Whole.{coding_of}
use Rattle.recovery.proofs.Laid.{Laid}
use Rattle.recovery.proofs.checking.Checked.gather.Given as goal

abbrev pub invariant-loop-j : goal.invariant-loop-j
invariant-loop-j g l = Laid (coding_of g.F.Field l.self.plan.now) l.size l.slices l.fn.out l.out (l.j * l.k)

abbrev pub invariant-loop-i : goal.invariant-loop-i
invariant-loop-i g l = Laid (coding_of g.F.Field l.self.plan.now) l.size l.slices l.fn.out l.out (l.j * l.k + l.i)

use Rattle.std.proofs.Common.{◌≡◌, ◌<◌}
use Rattle.gf65537.specs.Gf65537.{times}
use Rattle.gf65537.proofs.Code.inverse.Given as goal

abbrev pub invariant-loop-x : goal.invariant-loop-x
invariant-loop-x l = (times l.fn.self.value l.c.0 ≡ l.x) × (0 < l.x) × (l.x < 65537) × (l.c.0 < 65537)

abbrev pub decreases-loop-x : goal.decreases-loop-x
decreases-loop-x l = l.x

use Rattle.speck128.specs.Rounds.{Begun}
use Rattle.speck128.proofs.schedule.Given as goal

abbrev pub invariant-loop-i : goal.invariant-loop-i
invariant-loop-i l = Begun l.key l.round_key-items l.i l.words.x l.words.y

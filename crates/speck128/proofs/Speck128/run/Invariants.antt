use Rattle.std.proofs.Common.{◌≡◌}
use Rattle.speck128.specs.Speck.{rounds, start}
use Rattle.speck128.proofs.Speck128.run.Given as goal

abbrev pub invariant-loop-k : goal.invariant-loop-k
invariant-loop-k l =
    (l.words.x ≡ (rounds l.k-index (start l.self.key l.block)).x) × (l.words.y ≡ (rounds l.k-index (start l.self.key l.block)).y)

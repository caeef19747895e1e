use Rattle.std.proofs.Common.{◌≡◌}
use Rattle.aes128.specs.Aes.{rounds}
use Rattle.aes128.specs.Columns.{state_of}
use Rattle.aes128.proofs.Aes128.run.Given as goal

abbrev pub invariant-loop-key : goal.invariant-loop-key
invariant-loop-key l = state_of l.state ≡ rounds l.self.key l.block l.key-index

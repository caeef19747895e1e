use Rattle.std.proofs.Common.{◌≡◌}
use Rattle.aes128.specs.Aes.{rcon, round_key}
use Rattle.aes128.specs.Columns.{state_of}
use Rattle.aes128.proofs.Rounds.{Begun}
use Rattle.aes128.proofs.schedule.Given as goal

abbrev pub invariant-loop-slot : goal.invariant-loop-slot
invariant-loop-slot l = Begun l.key l.slot-items l.slot-index × (state_of l.round_key ≡ round_key l.key l.slot-index) × (l.constant ≡ rcon l.slot-index)

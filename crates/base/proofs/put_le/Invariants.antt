use Rattle.std.proofs.Common.{◌≡◌, ◌/◌, ◌^◌}
use Rattle.base.specs.Bytes.{le_bytes, written}
use Rattle.base.proofs.put_le.Given as goal

abbrev pub invariant-loop-byte : goal.invariant-loop-byte
invariant-loop-byte l =
    (l.byte-items ≡ written l.initial.byte-items 0 (le_bytes l.byte-index l.value)) × (l.rest ≡ l.value / 256 ^ l.byte-index)

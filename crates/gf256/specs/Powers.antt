-- What the tables hold. Nobody has to believe it, since no public contract cites it. Assumes nothing.
use Rattle.std.specs.Prelude.{ℕ, zero, suc}
use Rattle.binary.specs.Binary.{product}

-- 2 to the power i
unfoldable pub power : ℕ → ℕ
power zero = 1
power (suc i) = product 8 0x11d (power i) 2

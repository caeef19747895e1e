-- What the words of a schedule are. Assumes nothing.
use Rattle.std.specs.Prelude.{◌≡◌, ℕ, ◌<◌, List, slice_index}
use Rattle.speck128.specs.Speck.{rounds, start}

-- the round keys of a key: the one at place i is k as round i begins, whatever the block
abbrev pub RoundKeys : List ℕ → List ℕ → Type 0
RoundKeys key ks = (block : List ℕ) (i : ℕ) → i < 32 → slice_index ks i ≡ (rounds i (start key block)).k

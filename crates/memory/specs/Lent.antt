-- Working memory as a call was lent it, and as the call leaves it. Assumes nothing.
use Rattle.std.specs.Prelude.{◌≡◌, ℕ, Bool, List, length}
use Rattle.std.specs.Borrow.{MutBor}
use Rattle.memory.specs.declared.Work.{Work}
use Rattle.memory.specs.Zeros.{short, zeroed}

-- one of the four buffers is too short
abbrev pub is_short : Work → Bool
is_short work = short (length work.sealed.now) (length work.spread.now) (length work.records.now) (length work.opened.now)

-- what a call leaves behind the four buffers, in their order
abbrev pub Left : Type 0
Left = MutBor (List ℕ) × (MutBor (List ℕ) × (MutBor (List ℕ) × (MutBor (List ℕ) × Unit {0})))

-- each of the four buffers is zero
pub record Wiped (work : Work) (left : Left) : Type 0 where
  pub sealed : left.0.now ≡ zeroed work.sealed.now
  pub spread : left.1.0.now ≡ zeroed work.spread.now
  pub records : left.1.1.0.now ≡ zeroed work.records.now
  pub opened : left.1.1.1.0.now ≡ zeroed work.opened.now

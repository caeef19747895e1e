-- Which of two rows end to end has a cabinet: words of private contracts, which nobody has to believe. Assumes nothing.
use Rattle.std.specs.Prelude.{◌≡◌, ℕ, ◌-◌, ◌<◌, ◌≤◌, Option, Some}
use Rattle.pile.specs.declared.Side.{Side}
use Rattle.pile.specs.declared.Side.TheVariants.{First, Second}
use Rattle.rows.specs.declared.fault.Fault.{Fault}
use Rattle.rows.specs.declared.fault.RowCause.{RowCause}
use Rattle.rows.specs.declared.fault.RowCause.TheVariants as cause

-- where the first row has n cabinets, the cabinet c is on a side
abbrev pub On : ℕ → ℕ → Side → Type 0
On n c (First k) = (c < n) × (c < 16) × (k ≡ c)
On n c (Second k) = (n ≤ c) × (c < 16) × (k ≡ c - n)

-- a cabinet past the sixteenth, and its refusal by a call that names the file too, if it names one
abbrev pub Past : ℕ → Option ℕ → Fault RowCause → Type 0
Past c file fault = (16 ≤ c) × (fault ≡ record { cause = cause.NoCabinet; cabinet = Some c; file = file })

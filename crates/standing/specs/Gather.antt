-- What a cabinet has to hold for its record to be read into a place of its width. Assumes nothing.
use Rattle.std.specs.Prelude.{◌≡◌, ℕ, true, length}
use Rattle.rows.specs.Model.{RowModel, held}

-- cabinet c is in reach and has so many bytes for file f
abbrev pub Holds : RowModel → ℕ → ℕ → ℕ → Type 0
Holds m f width c = (m.reach c ≡ true) × (length (held (m.slot c f)) ≡ width)

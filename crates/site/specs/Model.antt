-- What a site is: what it is fitted with, what it keeps, and what its row means. Assumes nothing.
use Rattle.std.specs.Prelude.{ℕ, Bool, true, false, cond, not, ◌&&◌, List, replicate, ◌==◌, nat_le, nat_lt, slice_index_or}
use Rattle.std.specs.List.{flat_map}
use Rattle.base.specs.Sizes.{misfit}
use Rattle.aont.specs.Package.{package_length}
use Rattle.erasure.specs.declared.head.Head.{Head}
use Rattle.erasure.specs.Records.{Coding, record_length}
use Rattle.rows.specs.Model.{RowModel, Slot, Empty, held}
use Rattle.standing.specs.Standing.{stands}
use Rattle.standing.specs.Sets.{count_of, lowest}
use Rattle.site.specs.declared.files.Kept.{Kept}

-- a field with its widths and number and the plan's k, the plan's n, and a cipher with its number
pub record Fitting : Type 0 where
  pub code : Coding
  pub fitted : ℕ
  pub encrypt : List ℕ → List ℕ → List ℕ
  pub cipher : ℕ

-- what it is fitted with, what is kept of each file and of each cabinet, and what the row means
pub record SiteModel : Type 0 where
  pub fit : Fitting
  pub files : List Kept
  pub marks : List Bool
  pub row : RowModel

abbrev pub site : Fitting → List Kept → List Bool → RowModel → SiteModel
site K fs ms m = record { fit = K; files = fs; marks = ms; row = m }

-- the site with other files, other marks or another row
abbrev pub with_files : SiteModel → List Kept → RowModel → SiteModel
with_files S fs m = site S.fit fs S.marks m

abbrev pub with_marks : SiteModel → List Bool → RowModel → SiteModel
with_marks S ms m = site S.fit S.files ms m

abbrev pub with_row : SiteModel → RowModel → SiteModel
with_row S m = site S.fit S.files S.marks m

-- the plan's n and k, and the field as it cuts
abbrev pub fitted : SiteModel → ℕ
fitted S = S.fit.fitted

abbrev pub code : SiteModel → Coding
code S = S.fit.code

abbrev pub needed : SiteModel → ℕ
needed S = S.fit.code.needed

-- what is kept of a file, and of one that was never put
abbrev pub nothing : Kept
nothing = record { last = 0; current = false; size = 0 }

abbrev pub kept : SiteModel → ℕ → Kept
kept S f = slice_index_or S.files f nothing

abbrev pub marked : SiteModel → ℕ → Bool
marked S c = slice_index_or S.marks c false

-- the bytes of each record of a package; a length that no package has, which put refuses, has none
abbrev pub record_bytes : Coding → ℕ → ℕ
record_bytes C bytes = cond (misfit bytes) 0 (record_length C bytes)

-- the head of the record that is due for a file: of its last issue, its kept length and this field
abbrev pub due_for : Fitting → Kept → Head
due_for K k = record { whole = record_bytes K.code (package_length k.size); number = K.code.number; issue = k.last }

module _ (S : SiteModel) (f : ℕ) where
  -- the bytes of the file's package, and of each of its records
  abbrev pub package_bytes : ℕ
  package_bytes = package_length (kept S f).size

  abbrev pub whole : ℕ
  whole = record_bytes (code S) package_bytes

  abbrev pub due : Head
  due = due_for S.fit (kept S f)

  -- cabinet c stands for the file
  abbrev pub standing : ℕ → Bool
  standing c = stands S.row due f c

  -- fewer than k cabinets stand
  abbrev pub too_few : Bool
  too_few = nat_lt (count_of standing (fitted S)) (needed S)

  -- the k lowest that stand, in order, and their records end to end
  abbrev pub positions : List ℕ
  positions = lowest (needed S) standing (fitted S)

  abbrev pub records : List ℕ
  records = flat_map (λ c. held (S.row.slot c f)) positions

  -- cabinet c gets a record by a repair: it is in reach and does not stand, and the row takes a record of that length. Put
  -- refuses a file whose records it does not take, and a row's room never changes.
  abbrev pub lacking : ℕ → Bool
  lacking c = S.row.reach c && not (standing c) && nat_le whole S.row.room

-- the row with the slot of one file changed in each cabinet that passes a test
abbrev pub with_slots : RowModel → (ℕ → Bool) → ℕ → (ℕ → Slot) → RowModel
with_slots m which f new = record { count = m.count; room = m.room; reach = m.reach; slot = λ d g. cond (which d && g == f) (new d) (m.slot d g) }

-- the row with an empty cabinet in reach in the place of each that passes a test
abbrev pub with_all_new : RowModel → (ℕ → Bool) → RowModel
with_all_new m which = record { count = m.count; room = m.room; reach = λ d. cond (which d) true (m.reach d); slot = λ d g. cond (which d) Empty (m.slot d g) }

-- founding: each cabinet below n that the row has is swapped, no file is current and each mark is closed
abbrev pub founded : Fitting → RowModel → SiteModel
founded K m = site K (replicate 8 nothing) (replicate 16 false) (with_all_new m (λ c. nat_lt c K.fitted && nat_lt c m.count))

-- A round of the cabinets of a row, one after the other: what it has changed so far. Assumes nothing.
use Rattle.std.proofs.Common.{◌≡◌, ℕ, ◌+◌, ◌&&◌, ltb, ◌≢◌, sym, ◌∙◌, ⊎_elim, arith}
use Rattle.std.proofs.lemmas.Bool.{cases_lt, lt-ltb, le-ltb}
use Rattle.rows.specs.Model.{RowModel, Slot}
use Rattle.site.specs.Model.{with_all_new, with_slots}

-- another number is below c + 1 exactly if it is below c
pub same_below : (d c : ℕ) → d ≢ c → ltb d (c + 1) ≡ ltb d c
same_below d c ne = ⊎_elim
    (λ l. lt-ltb d (c + 1) (omega arith) ∙ sym (lt-ltb d c l))
    (λ l. le-ltb d (c + 1) (omega (arith, ne)) ∙ sym (le-ltb d c l))
    (cases_lt d c)

module _ (m : RowModel) where
  -- the first c cabinets are swapped
  abbrev pub swapped : ℕ → RowModel
  swapped c = with_all_new m (λ d. ltb d c && ltb d m.count)

module _ (m : RowModel) (f : ℕ) (new : ℕ → Slot) where
  -- the slot of the file is changed in each of the first c cabinets that is in reach
  abbrev pub changed : ℕ → RowModel
  changed c = with_slots m (λ d. ltb d c && m.reach d) f new

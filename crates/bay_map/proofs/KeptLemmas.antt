-- One more cabinet that keeps its record.
use Rattle.std.proofs.Common.{◌≡◌, ℕ, ◌+◌, ◌<◌, List, Ok, refl, sym, ap, arith, inl, inr}
use Rattle.std.proofs.lemmas.Bool.Decides.{eqb_tells}
use Rattle.rows.specs.Model.{RowModel, Held, with_new, with_slot}
use Rattle.bay_map.specs.Kept.{Keeps, KeepsWhatFits, record_at, record_within, restocked, slot_with}

pub keeps_next : (row : RowModel) (k n : ℕ) (pkg r : List ℕ) (c : ℕ) →
    ((d : ℕ) → d < c → Keeps row k n pkg d) → record_at k n pkg c ≡ Ok r →
    (d : ℕ) → d < c + 1 → Keeps (with_slot (with_new row c) c 0 (Held r)) k n pkg d
keeps_next row k n pkg r c before made d below = elim (eqb_tells d c) [
  | inl (same, is) ↦ record { near = rw same refl; kept = r; holds = rw same refl; made = rw is made }
  | inr (other, differ) ↦
      let kept = before d (omega (arith, below, differ)) in
      record { near = rw other kept.near; kept = kept.kept; holds = rw other kept.holds; made = kept.made }
]

pub keeps_what_fits_next : (row : RowModel) (k n : ℕ) (pkg : List ℕ) (c : ℕ) →
    ((d : ℕ) → d < c → KeepsWhatFits row k n pkg d) →
    (d : ℕ) → d < c + 1 → KeepsWhatFits (restocked row k n pkg c) k n pkg d
keeps_what_fits_next row k n pkg c before d below = elim (eqb_tells d c) [
  | inl (same, is) ↦ record { near = rw same refl; holds = rw same (ap (λ e. slot_with (record_within row.room k n pkg e)) (sym is)) }
  | inr (other, differ) ↦
      let kept = before d (omega (arith, below, differ)) in
      record { near = rw other kept.near; holds = rw other kept.holds }
]

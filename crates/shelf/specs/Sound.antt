-- What a memory holds is a sound row, which the interface asks to be shown with the meaning: proofs, nobody has to believe
-- them. Assumes nothing.
use Rattle.std.specs.Prelude.{◌≡◌, ℕ, zero, suc, ◌+◌, ◌≤◌, List, [], ◌∷◌, length, refl}
use Rattle.std.proofs.Common.{arith, lit<}
use Rattle.std.proofs.lemmas.Grind.{common_steps}
use Rattle.base.specs.Bytes.{Bytes, le_value, part}
use Rattle.rows.specs.Model.{Slot, Empty, Condemned, Held, Sound}
use Rattle.shelf.specs.Layout.{place, as_bytes, slot_at, shelved}
use Rattle.shelf.specs.Within.{place-within}

pub Bytes-as_bytes : (xs : List ℕ) → Bytes (as_bytes xs)
Bytes-as_bytes [] i = lit< tt
Bytes-as_bytes (x ∷ xs) zero = omega arith
Bytes-as_bytes (x ∷ xs) (suc i) = Bytes-as_bytes xs i

-- what holds bytes, stays as it is
pub as_bytes_same : (xs : List ℕ) → Bytes xs → as_bytes xs ≡ xs
as_bytes_same [] h = refl
as_bytes_same (x ∷ xs) h = grind (arith, common_steps, h 0, as_bytes_same xs (λ i. h (suc i)))

-- a slot that holds bytes, holds 1 to r of them
pub record Bounded (r : ℕ) (s : Slot) : Type 0 where
  pub some : (bs : List ℕ) → s ≡ Held bs → 1 ≤ length bs
  pub most : (bs : List ℕ) → s ≡ Held bs → length bs ≤ r
  pub bytes : (bs : List ℕ) → s ≡ Held bs → Bytes bs

empty_bounded : (r : ℕ) → Bounded r Empty
empty_bounded r = record { some = λ bs e. grind (arith, common_steps); most = λ bs e. grind (arith, common_steps); bytes = λ bs e. grind (arith, common_steps) }

condemned_bounded : (r : ℕ) → Bounded r Condemned
condemned_bounded r = record { some = λ bs e. grind (arith, common_steps); most = λ bs e. grind (arith, common_steps); bytes = λ bs e. grind (arith, common_steps) }

held_bounded : (r n : ℕ) (xs : List ℕ) → 1 ≤ n → n ≤ r → length xs ≡ n → Bounded r (Held (as_bytes xs))
held_bounded r n xs pos le long = record {
  some = λ bs e. grind (arith, common_steps);
  most = λ bs e. grind (arith, common_steps);
  bytes = λ bs e. grind (arith, common_steps, Bytes-as_bytes xs);
}

held_within : (xs : List ℕ) (r at : ℕ) (bs : List ℕ) → at + (3 + r) ≤ length xs → slot_at xs r at ≡ Held bs → (1 ≤ length bs) × (length bs ≤ r) × Bytes bs
unfolding slot_at
held_within xs r at bs fit e = grind (arith, common_steps, Bytes-as_bytes (part xs (at + 3) (le_value (part xs (at + 1) 2))))

pub slot_bounded : (xs : List ℕ) (r at : ℕ) → at + (3 + r) ≤ length xs → Bounded r (slot_at xs r at)
slot_bounded xs r at fit = record {
  some = λ bs e. (held_within xs r at bs fit e).0;
  most = λ bs e. (held_within xs r at bs fit e).1;
  bytes = λ bs e. (held_within xs r at bs fit e).2;
}

there_bounded : (xs : List ℕ) (r c f : ℕ) → Bounded r ((shelved xs r).slot c f)
unfolding shelved
there_bounded xs r c f = record {
  some = λ bs e. grind (arith, common_steps, place-within (length xs) r c f, held_within xs r (place r c f) bs);
  most = λ bs e. grind (arith, common_steps, place-within (length xs) r c f, held_within xs r (place r c f) bs);
  bytes = λ bs e. grind (arith, common_steps, place-within (length xs) r c f, held_within xs r (place r c f) bs);
}

pub shelf_sound : (xs : List ℕ) (r : ℕ) → r ≤ 6400 → Sound (shelved xs r)
unfolding shelved
shelf_sound xs r small = record {
  few = omega arith;
  small = small;
  some = λ c f bs e. (there_bounded xs r c f).some bs e;
  most = λ c f bs e. omega (arith, small, (there_bounded xs r c f).most bs e);
  bytes = λ c f bs e. (there_bounded xs r c f).bytes bs e;
  no_reach = λ c h. grind (arith, common_steps);
  no_cabinet = λ c f h. grind (arith, common_steps);
  no_file = λ c f h. grind (arith, common_steps);
}

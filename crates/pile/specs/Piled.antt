-- Two rows end to end. Assumes nothing.
use Rattle.std.specs.Prelude.{◌≡◌, ℕ, ◌+◌, ◌-◌, ◌≤◌, min, false, cond, ◌⊎◌, List, Some, Ok, Err, Result, nat_lt}
use Rattle.std.proofs.Common.{arith}
use Rattle.std.proofs.lemmas.Grind.{common_steps}
use Rattle.rows.specs.declared.fault.Fault.{Fault}
use Rattle.rows.specs.declared.fault.RowCause.{RowCause}
use Rattle.rows.specs.Model.{RowModel, Empty, Held, Sound}

-- what p says of the first n cabinets and q of those that follow, up to 16 in all
abbrev pub end_to_end : {X : Type 0} → ℕ → (ℕ → X) → (ℕ → X) → X → ℕ → X
end_to_end n p q none c = cond (nat_lt c 16) (cond (nat_lt c n) (p c) (q (c - n))) none

-- the second's cabinets follow the first's, up to 16 in all, and the room is the smaller
unfoldable pub piled : RowModel → RowModel → RowModel
piled a b = record {
  count = min 16 (a.count + b.count);
  room = min a.room b.room;
  reach = λ c. end_to_end a.count a.reach b.reach false c;
  slot = λ c f. end_to_end a.count (λ d. a.slot d f) (λ d. b.slot d f) Empty c;
}

-- an answer, its refusal about the cabinet of this number
abbrev pub naming : {T : Type 0} → ℕ → Result T (Fault RowCause) → Result T (Fault RowCause)
naming c (Ok x) = Ok x
naming c (Err e) = Err (record { cause = e.cause; cabinet = Some c; file = e.file })

-- Two sound rows make a sound one: the rest of this file is proofs, which the interface asks for with the meaning; nobody
-- has to believe them.
module _ (a b : RowModel) (sound_a : Sound a) (sound_b : Sound b) where
  -- a slot that holds bytes is one of the two rows'
  whose : (c f : ℕ) (bs : List ℕ) → (piled a b).slot c f ≡ Held bs → (a.slot c f ≡ Held bs) ⊎ (b.slot (c - a.count) f ≡ Held bs)
  unfolding piled
  whose c f bs e = grind (arith, common_steps)

  none_past : {X : Type 0} (p q : ℕ → X) (none : X) (c : ℕ) → min 16 (a.count + b.count) ≤ c → ((d : ℕ) → b.count ≤ d → q d ≡ none) → end_to_end a.count p q none c ≡ none
  none_past p q none c h past = grind (arith, common_steps, sound_a.few, past)

  no_file_past : (c f : ℕ) → 8 ≤ f → (piled a b).slot c f ≡ Empty
  unfolding piled
  no_file_past c f h = grind (arith, common_steps, sound_a.no_file, sound_b.no_file)

pub piled_sound : (a b : RowModel) → Sound a → Sound b → Sound (piled a b)
unfolding piled
piled_sound a b sound_a sound_b = record {
  few = omega arith;
  small = omega (arith, sound_a.small);
  some = λ c f bs e. grind (arith, common_steps, sound_a.some, sound_b.some);
  most = λ c f bs e. grind (arith, common_steps, sound_a.most, sound_b.most);
  bytes = λ c f bs e. grind (arith, common_steps, sound_a.bytes, sound_b.bytes);
  no_reach = λ c h. none_past a b sound_a sound_b a.reach b.reach false c h sound_b.no_reach;
  no_cabinet = λ c f h. none_past a b sound_a sound_b (λ d. a.slot d f) (λ d. b.slot d f) Empty c h (λ d k. sound_b.no_cabinet d f k);
  no_file = no_file_past a b sound_a sound_b;
}

-- The cabinets and slots of a shelf lie apart. Assumes nothing.
use Rattle.std.proofs.Common.{◌≡◌, ℕ, ◌+◌, ◌<◌, ◌≤◌, ◌⊎◌, arith}
use Rattle.shelf.specs.Layout.{stride, door, place}
use Rattle.shelf.specs.Within.{before, inner_within}

-- a byte of reach lies outside every slot
pub door_apart : (r c d f : ℕ) → f < 8 → (door r d < place r c f) ⊎ (place r c f + (3 + r) ≤ door r d)
door_apart r c d f k = grind (arith, before (stride r) c d, before (stride r) d c, inner_within r f k)

-- two slots lie apart
pub place_apart : (r c f d g : ℕ) → f < 8 → g < 8 → ((d ≡ c) × (g ≡ f) → ⊥) → (place r d g + (3 + r) ≤ place r c f) ⊎ (place r c f + (3 + r) ≤ place r d g)
place_apart r c f d g k l no_both =
    grind (arith, before (stride r) c d, before (stride r) d c, before (3 + r) f g, before (3 + r) g f, inner_within r f k, inner_within r g l)

-- two bytes of reach differ
pub door_differs : (r c d : ℕ) → (d ≡ c → ⊥) → door r d ≡ door r c → ⊥
door_differs r c d ne e = grind (arith, before (stride r) c d, before (stride r) d c)

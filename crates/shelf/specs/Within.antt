-- The cabinets and slots of a shelf lie within its memory: proofs, nobody has to believe them. Assumes nothing.
use Rattle.std.specs.Prelude.{ℕ, ◌+◌, ◌*◌, ◌<◌, ◌≤◌}
use Rattle.std.proofs.Common.{arith}
use Rattle.shelf.specs.Layout.{stride, fitting, door, place}

-- of pieces that are s long, each ends before the next begins
pub before : (s c d : ℕ) → c < d → c * s + s ≤ d * s
before s c d h = grind arith

pub cabinet_within : (n r c : ℕ) → c < fitting n r → door r c + stride r ≤ n
cabinet_within n r c h = grind arith

pub door-within : (n r c : ℕ) → c < fitting n r → door r c < n
door-within n r c h = omega (arith, cabinet_within n r c h)

-- a slot within its cabinet
pub inner_within : (r f : ℕ) → f < 8 → 1 + f * (3 + r) + (3 + r) ≤ stride r
inner_within r f h = grind arith

pub place-within : (n r c f : ℕ) → c < fitting n r → f < 8 → place r c f + (3 + r) ≤ n
place-within n r c f h k = omega (arith, cabinet_within n r c h, inner_within r f k)

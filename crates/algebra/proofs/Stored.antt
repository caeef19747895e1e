-- Slices of stored codes, place by place. Assumes nothing.
use Rattle.std.proofs.Common.{◌≡◌, ℕ, zero, suc, ◌+◌, ◌^◌, ◌<◌, ◌≤◌, min, List, length, ap, ◌∙◌, arith}
use Rattle.base.specs.Bytes.{le_value, part}
use Rattle.base.proofs.Places.{part_saturated}
use Rattle.algebra.specs.Fields.{Ops, Laws, Widths}
use Rattle.algebra.specs.Slices.{stored_at}

module _ (f : Ops) (L : Laws f) (w v number : ℕ) (W : Widths f w v number) where
  pub stored-most : v ≤ 3
  stored-most = omega (arith, W.ratio, W.most)

  pub stored-least : 0 < v
  stored-least = least v W.holds
    where
      least : (v : ℕ) → f.size ≤ 256 ^ v → 0 < v
      least zero h = absurd (omega (arith, L.one_code))
      least (suc v) h = omega arith

  -- what is read at a place, by a sum held at the largest number and a width held at four
  pub read_stored : (bs : List ℕ) (a b n read : ℕ) → length bs ≤ n → read ≡ le_value (part bs (min (min a n + b) n) (min v 4)) → read ≡ stored_at v bs (a + b)
  read_stored bs a b n read h e =
      let four : min v 4 ≡ v = omega (arith, stored-most) in
      e ∙ ap (λ m. le_value (part bs (min (min a n + b) n) m)) four ∙ ap le_value (part_saturated bs a b n v h)

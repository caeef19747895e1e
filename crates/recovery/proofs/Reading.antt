-- Records end to end, as the code reads them. Assumes nothing.
use Rattle.std.proofs.Common.{◌≡◌, ℕ, ◌+◌, ◌*◌, ◌<◌, ◌≤◌, min, List, ap, ◌∙◌, mul-le-mul_right, add-mul, one-mul, arith}
use Rattle.base.specs.Bytes.{le_value, part}
use Rattle.algebra.specs.Fields.{Ops, Widths}

-- record i of k lies within them all
pub record_within : (i k whole : ℕ) → i < k → i * whole + whole ≤ k * whole
record_within i k whole h = omega (arith, mul-le-mul_right whole h, add-mul i 1 whole, one-mul whole)

module _ (f : Ops) (w v number : ℕ) (W : Widths f w v number) where
  pub read_stored : (bs : List ℕ) (place : ℕ → ℕ) (width read : ℕ) → width ≡ v → read ≡ le_value (part bs (place width) (min width 4)) → read ≡ le_value (part bs (place v) v)
  read_stored bs place width read e er =
      let four : min v 4 ≡ v = omega (arith, W.most, W.ratio) in
      er ∙ ap (λ m. le_value (part bs (place m) (min m 4))) e ∙ ap (λ m. le_value (part bs (place v) m)) four

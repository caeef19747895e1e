-- A package's symbols, as the code reads them. Assumes nothing.
use Rattle.std.proofs.Common.{◌≡◌, ℕ, zero, suc, ◌+◌, ◌-◌, ◌*◌, ◌/◌, ◌%◌, ◌≤◌, min, List, sym, ap, ◌∙◌, subst, mul-le-mul_right, mul_assoc, mul_comm, add-mul, one-mul, mul-add, div-mul-le_self, div-one, arith}
use native.Mathlib.Nat.{div-eq_of_lt-le}
use Rattle.std.proofs.lemmas.Nat.{mul-le}
use Rattle.std.proofs.lemmas.Grind.{div_ceil_times}
use Rattle.base.specs.Bytes.{le_value, part}
use Rattle.algebra.specs.Fields.{Ops, Widths}
use Rattle.erasure.specs.Records.{coding, columns, record_length}

-- one slice takes no more than all of them
pub one_slice : (k size most : ℕ) → 1 ≤ k → k * size ≤ most → size ≤ most
one_slice k size most h l = omega (arith, mul-le-mul_right size h, one-mul size)

-- rounding up, as the code does it and as the definition does
pub ceil_is : (s k : ℕ) → 1 ≤ k → s / k + min 1 (s % k) ≡ (s + (k - 1)) / k
ceil_is s k low =
    let q = s / k + min 1 (s % k) in
    let t = div_ceil_times s k low in
    sym (div-eq_of_lt-le k (omega (arith, t.1)) (omega (arith, t.0, add-mul q 1 k, one-mul k)))

module _ (f : Ops) (w v number : ℕ) (W : Widths f w v number) where
  pub read_symbol : (pkg : List ℕ) (i width read : ℕ) → width ≡ w → read ≡ le_value (part pkg (i * width) (min width 4)) → read ≡ le_value (part pkg (i * w) w)
  read_symbol pkg i width read e er =
      let four : min w 4 ≡ w = omega (arith, W.most) in
      er ∙ ap (λ m. le_value (part pkg (i * m) (min m 4))) e ∙ ap (λ m. le_value (part pkg (i * w) m)) four

  -- the columns of k symbols hold all of a package, and no more than k - 1 zeros besides
  few-symbols : (k bytes : ℕ) → 1 ≤ k → k * columns (coding f w v number k) bytes ≤ bytes / w + (k - 1)
  few-symbols k bytes h = omega (arith, mul_comm k (columns (coding f w v number k) bytes), div-mul-le_self (bytes / w + (k - 1)) k)

  -- so the slices of any package fit working memory, and 96 bytes besides
  slices_bound : (k bytes : ℕ) → 1 ≤ k → k ≤ 16 → bytes ≤ 4128 → k * (columns (coding f w v number k) bytes * v) + 96 ≤ 6400
  slices_bound k bytes low high few =
      let m = columns (coding f w v number k) bytes in
      subst (λ n. n + 96 ≤ 6400) (mul_assoc k m v) (bounded w v (k * m) W.least W.most W.ratio (few-symbols k bytes low))
    where
      bounded : (w v s : ℕ) → 1 ≤ w → w ≤ 2 → 2 * v ≤ 3 * w → s ≤ bytes / w + (k - 1) → s * v + 96 ≤ 6400
      bounded zero v s least most ratio h = absurd (omega arith)
      bounded (suc zero) v s least most ratio h = omega (arith, mul-le s v 4143 1 (omega (arith, div-one bytes)) (omega arith))
      bounded (suc (suc zero)) v s least most ratio h = omega (arith, mul-le s v 2079 3 (omega arith) (omega arith))
      bounded (suc (suc (suc w))) v s least most ratio h = absurd (omega arith)

  pub slices_fit : (k bytes : ℕ) → 1 ≤ k → k ≤ 16 → bytes ≤ 4128 → k * (columns (coding f w v number k) bytes * v) ≤ 6400
  slices_fit k bytes low high few = omega (arith, slices_bound k bytes low high few)

  -- and so do k records, with their heads
  pub records_fit_memory : (k bytes : ℕ) → 1 ≤ k → k ≤ 16 → bytes ≤ 4128 → k * record_length (coding f w v number k) bytes ≤ 6400
  records_fit_memory k bytes low high few =
      let size = columns (coding f w v number k) bytes * v in
      omega (arith, slices_bound k bytes low high few, mul-add k 6 size, mul_comm k 6)

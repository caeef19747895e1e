use Rattle.std.proofs.Common.{◌≡◌, ◌<◌, ◌≤◌, length, get_or, sym, ap, ◌∙◌, arith, eqb-true}
use borrow.Author.Tests.{eqb-false}
use Rattle.gf256.specs.Slices.{bit_of, bits_added}
use Rattle.gf256.proofs.Sums.{bits_none, bits_more, bits_same}
use Rattle.gf256.proofs.slices.add_bit.Goals as goal
use Rattle.gf256.proofs.slices.add_bit.Goals.{then-has_bit, else-has_bit}

pub loop-i-init : goal.loop-i-init
loop-i-init c = bits_none c.args.bit c.args.out.now c.args.sum.now.weights.now c.args.sum.now.sources.now c.args.sum.now.stride

pub loop-i-preserved : goal.loop-i-preserved
loop-i-preserved c =
    let bit = c.args.bit in
    let xs = c.args.out.now in
    let ws = c.args.sum.now.weights.now in
    let bs = c.args.sum.now.sources.now in
    let i = c.loop-i.i in
    let few : length bs ≤ 18446744073709551615 = omega arith in
    elim c.if-has_bit.branch [
      | then-has_bit w ↦
          w.out-is ∙ w.add_from.ensures
          ∙ bits_more bit xs ws bs c.args.sum.now.stride i c.loop-i.out w.saturating_mul.result 18446744073709551615 c.loop-i.invariant few w.saturating_mul.ensures
          (eqb-true (bit_of (get_or ws i 0) bit) 1 (sym c.has_bit.ensures ∙ w.if-has_bit.true))
      | else-has_bit w ↦
          w.out-is
          ∙ bits_same bit xs ws bs c.args.sum.now.stride i c.loop-i.out c.loop-i.invariant
          (let no_one : bit_of (get_or ws i 0) bit ≡ 1 → ⊥ = eqb-false (bit_of (get_or ws i 0) bit) 1 (sym c.has_bit.ensures ∙ w.if-has_bit.false) in
          let low : bit_of (get_or ws i 0) bit < 2 = omega arith in omega arith)
    ]

pub returns : goal.returns
returns c =
    let last : c.loop-i.i ≡ length c.args.sum.now.weights.now = omega arith in
    c.loop-i.invariant ∙ ap (bits_added c.args.bit c.args.out.now c.args.sum.now.weights.now c.args.sum.now.sources.now c.args.sum.now.stride) last

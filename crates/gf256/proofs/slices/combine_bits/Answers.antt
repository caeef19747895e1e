use Rattle.std.proofs.Common.{◌≡◌, ◌+◌, ◌-◌, map, length, replicate, sym, ap, ◌∙◌, arith}
use Rattle.std.specs.List.{range_with_len}
use Rattle.gf256.specs.Slices.{bits_added}
use Rattle.gf256.proofs.Sums.{bits_from, bits_start, bits_turn, combined-bits}
use Rattle.gf256.proofs.slices.combine_bits.Goals as goal

pub loop-bit-init : goal.loop-bit-init
loop-bit-init c =
    let ws = c.args.sum.now.weights.now in
    let bs = c.args.sum.now.sources.now in
    let zeros : c.fill.new.self ≡ replicate (length c.args.out.now) 0 = c.fill.ensures.after (λ y e. e) in
    zeros ∙ bits_start ws bs c.args.sum.now.stride c.holds_bytes.ensures (length c.args.out.now)
    ∙ ap (λ n. map (bits_from ws bs c.args.sum.now.stride 8 (length ws)) (range_with_len 0 n)) (sym c.fill.ensures.len)

pub loop-bit-preserved : goal.loop-bit-preserved
loop-bit-preserved c =
    let ws = c.args.sum.now.weights.now in
    let bs = c.args.sum.now.sources.now in
    let b = c.loop-bit.bit - 1 in
    let up : c.loop-bit.bit ≡ b + 1 = omega arith in
    c.add_bit.ensures ∙ ap (λ xs. bits_added b xs ws bs c.args.sum.now.stride (length ws)) c.double_all.ensures
    ∙ bits_turn ws bs c.args.sum.now.stride c.holds_bytes.ensures c.fill.new.self c.loop-bit.out b
    (c.loop-bit.invariant ∙ ap (λ n. map (bits_from ws bs c.args.sum.now.stride n (length ws)) (range_with_len 0 (length c.fill.new.self))) up)

pub returns : goal.returns
returns c =
    let ws = c.args.sum.now.weights.now in
    let bs = c.args.sum.now.sources.now in
    let last : c.loop-bit.bit ≡ 0 = omega arith in
    combined-bits ws bs c.args.sum.now.stride c.holds_bytes.ensures c.args.out.now c.loop-bit.out
    (c.loop-bit.invariant ∙ ap (λ n. map (bits_from ws bs c.args.sum.now.stride n (length ws)) (range_with_len 0 (length c.fill.new.self))) last
    ∙ ap (λ n. map (bits_from ws bs c.args.sum.now.stride 0 (length ws)) (range_with_len 0 n)) c.fill.ensures.len)

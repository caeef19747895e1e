use Rattle.std.proofs.Common.{◌+◌, ◌<◌, ◌≤◌, length, get_or, sym, ap, ◌∙◌, zero-add, arith}
use lib.Bits.{bit_xor, xor_zero_r}
use Rattle.std.proofs.lemmas.List.{get_or_past}
use Rattle.base.proofs.Placed.{placed_none, placed_more, placed_rest}
use Rattle.gf256.specs.Slices.{added}
use Rattle.gf256.proofs.slices.add_all.Goals as goal

pub loop-j-init : goal.loop-j-init
loop-j-init c = placed_none c.args.out.now _

pub loop-j-preserved : goal.loop-j-preserved
loop-j-preserved c =
    let was = c.args.out.now in
    let j = c.loop-j.j in
    let within : j < length was = omega arith in
    let same : j ≤ j = omega arith in
    placed_more was c.loop-j.out j _ (λ j. bit_xor (get_or was j 0) (get_or c.args.slice.now (0 + j) 0)) within
    (ap (λ a. bit_xor a (get_or c.args.slice.now j 0)) (c.loop-j.invariant.rest j same) ∙ ap (λ k. bit_xor (get_or was j 0) (get_or c.args.slice.now k 0)) (sym (zero-add j)))
    c.loop-j.invariant

pub returns : goal.returns
unfolding added
returns c =
    let was = c.args.out.now in
    let slice = c.args.slice.now in
    placed_rest was c.loop-j.out c.loop-j.j _ c.loop-j.invariant
    (λ k l h. let past : length slice ≤ 0 + k = omega arith in sym (ap (bit_xor (get_or was k 0)) (get_or_past slice (0 + k) 0 past) ∙ xor_zero_r (get_or was k 0)))

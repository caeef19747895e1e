use Rattle.std.proofs.Common.{◌≡◌, ℕ, ◌*◌, ◌/◌, length, ap, ◌∙◌, arith}
use Rattle.base.proofs.Pieces.{place-within, stored_none, stored_next, stored-end}
use Rattle.algebra.specs.Slices.{combined_at, combined}
use Rattle.algebra.proofs.field.Field.combine.Goals as goal

pub loop-j-init : goal.loop-j-init
unfolding combined
loop-j-init g c =
    let v = g.Self.Field.stored in
    stored_none (λ j. combined_at g.Self.Field.ops v c.args.sum.now.weights.now c.args.sum.now.sources.now c.args.sum.now.stride (j * v)) v c.args.out.now

pub overflow_mul-place : goal.overflow_mul-place
overflow_mul-place g c = omega (arith, place-within c.loop-j.j c.stored_width-width.result (length c.args.out.now) c.loop-j-test.true)

pub loop-j-preserved : goal.loop-j-preserved
unfolding combined
loop-j-preserved g c =
    let v = g.Self.Field.stored in
    let code : ℕ → ℕ = λ j. combined_at g.Self.Field.ops v c.args.sum.now.weights.now c.args.sum.now.sources.now c.args.sum.now.stride (j * v) in
    stored_next code v c.stored_width-width.result c.stored_width-width.ensures c.args.out.now c.loop-j.out c.put_le.new.out c.loop-j.j
    c.combine_at.result c.loop-j.invariant c.loop-j.auto.out c.loop-j-test.true
    (c.combine_at.ensures ∙ ap (λ w. combined_at g.Self.Field.ops v c.args.sum.now.weights.now c.args.sum.now.sources.now c.args.sum.now.stride (c.loop-j.j * w)) c.stored_width-width.ensures)
    c.put_le.ensures

pub returns : goal.returns
unfolding combined
returns g c =
    let v = g.Self.Field.stored in
    let code : ℕ → ℕ = λ j. combined_at g.Self.Field.ops v c.args.sum.now.weights.now c.args.sum.now.sources.now c.args.sum.now.stride (j * v) in
    let last : c.loop-j.j ≡ length c.args.out.now / c.stored_width-width.result = omega arith in
    stored-end code v c.stored_width-width.result c.stored_width-width.ensures c.args.out.now c.loop-j.out c.loop-j.j last c.loop-j.invariant

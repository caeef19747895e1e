use Rattle.std.proofs.Common.{◌≡◌, ◌+◌, ◌*◌, ◌≤◌, min, length, ap, ◌∙◌, add-one, arith}
use Rattle.base.specs.Bytes.{le_value, part}
use Rattle.algebra.specs.Slices.{stored_at, combined_at}
use Rattle.algebra.proofs.Stored.{read_stored}
use Rattle.algebra.proofs.field.Field.combine_at.Goals as goal

pub loop-i-preserved : goal.loop-i-preserved
loop-i-preserved g c =
    let bs = c.args.sum.now.sources.now in
    let h : length bs ≤ 18446744073709551615 = omega arith in
    let begin = c.saturating_add-begin.ensures ∙ ap (λ m. min (m + c.args.place) 18446744073709551615) c.saturating_mul.ensures in
    let read : c.le_at.result ≡ stored_at g.Self.Field.stored bs (c.loop-i.i * c.args.sum.now.stride + c.args.place) =
    read_stored g.Self.Field.ops g.met.Self.Field.lawful g.Self.Field.width g.Self.Field.stored g.Self.Field.number g.met.Self.Field.widths
    bs (c.loop-i.i * c.args.sum.now.stride) c.args.place 18446744073709551615 c.le_at.result h
    (c.le_at.ensures ∙ ap (λ m. le_value (part bs m (min c.stored_width.result 4))) begin
    ∙ ap (λ m. le_value (part bs (min (min (c.loop-i.i * c.args.sum.now.stride) 18446744073709551615 + c.args.place) 18446744073709551615) (min m 4))) c.stored_width.ensures) in
    rw add-one (cc)

pub returns : goal.returns
unfolding combined_at
returns g c =
    let last : c.loop-i.i ≡ length c.args.sum.now.weights.now = omega arith in
    rw last at c.loop-i.invariant

use Rattle.std.proofs.Common.{◌≡◌, ◌+◌, ◌*◌, ◌<◌, ◌≤◌, ℕ, length, ap, mul-le-mul_right, arith, rules}
use Rattle.algebra.proofs.Stored.{stored-least}
use Rattle.erasure.specs.Whole.{coding_of}
use Rattle.erasure.specs.Records.{columns}
use Rattle.erasure.specs.Formula.{slice_of, spread}
use Rattle.erasure.proofs.Spreading.{slices_more, slices_all, length_slice}
use Rattle.erasure.proofs.slicing.spread_slices.Goals as goal

-- the next slice ends within what has room for all
last_within : (i n k size room : ℕ) → i < n → n ≡ k → k * size ≤ room → (i + 1) * size ≤ room
last_within i n k size room h e fits = omega (arith, mul-le-mul_right size h, ap (λ m. m * size) e)

pub slice_bounds-spread_slice-end : goal.slice_bounds-spread_slice-end
slice_bounds-spread_slice-end g c =
    let end : (c.loop-i.i + 1) * c.args.size ≤ length c.args.slices.now = last_within c.loop-i.i c.needed-i-end.result c.args.plan.now.k c.args.size (length c.args.slices.now) c.loop-i-test.true c.needed-i-end.ensures c.requires.room in
    search rules

pub loop-i-preserved : goal.loop-i-preserved
loop-i-preserved g c =
    let f = g.F.Field in
    let pkg = c.args.package.now in
    let C = coding_of f c.args.plan.now in
    let end : (c.loop-i.i + 1) * c.args.size ≤ length c.args.slices.now = last_within c.loop-i.i c.needed-i-end.result c.args.plan.now.k c.args.size (length c.args.slices.now) c.loop-i-test.true c.needed-i-end.ensures c.requires.room in
    slices_more f.stored (columns C (length pkg)) (slice_of C pkg) (length_slice C pkg) c.args.slices.now c.loop-i.slices c.spread_slice.new.out
    c.loop-i.i c.args.size (stored-least f.ops g.met.F.Field.lawful f.width f.stored f.number g.met.F.Field.widths) c.requires.whole
    c.loop-i.invariant c.loop-i.auto.slices end c.spread_slice.ensures

pub returns : goal.returns
unfolding spread
returns g c =
    let f = g.F.Field in
    let pkg = c.args.package.now in
    let C = coding_of f c.args.plan.now in
    let last : c.loop-i.i ≡ c.args.plan.now.k = omega (arith, c.needed-i-end.ensures) in
    slices_all f.stored (columns C (length pkg)) (slice_of C pkg) (length_slice C pkg) c.args.slices.now c.loop-i.slices c.loop-i.i
    c.args.size c.args.plan.now.k c.requires.whole last c.loop-i.invariant

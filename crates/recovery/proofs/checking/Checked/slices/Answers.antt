use Rattle.std.proofs.Common.{◌≡◌, ℕ, ◌+◌, ◌*◌, ◌≤◌, List, ◌++◌, length, drop, sym, ap, ◌∙◌, mul-le-mul_right, add-mul, one-mul, arith}
use Rattle.std.specs.List.{range_with_len, flat_map}
use Rattle.std.proofs.lemmas.List.{length-append, length-drop}
use Rattle.base.specs.Bytes.{over}
use Rattle.base.proofs.Pieces.{length_pieces}
use Rattle.algebra.specs.Polynomials.{at}
use Rattle.algebra.proofs.Stored.{stored-least}
use Rattle.erasure.specs.Records.{columns}
use Rattle.erasure.specs.Formula.{point_weights}
use Rattle.erasure.specs.Whole.{coding_of}
use Rattle.erasure.proofs.Spreading.{slices_more, slices_all}
use Rattle.erasure.proofs.Weighing.{length-combined}
use Rattle.recovery.specs.Formula.{worked_slice, recovered}
use Rattle.recovery.proofs.checking.Checked.slices.Goals as goal

-- the slices end within working memory, and it keeps its length while they are laid there
within : (i k size : ℕ) → i + 1 ≤ k → k * size ≤ 6400 → (i + 1) * size ≤ 6400
within i k size h all = omega (arith, mul-le-mul_right size h)

laid-long : (slice : ℕ → List ℕ) (lent now : List ℕ) (i size : ℕ) → ((j : ℕ) → length (slice j) ≡ size) → (i + 1) * size ≤ length lent →
    now ≡ flat_map slice (range_with_len 0 i) ++ drop (i * size) lent → length now ≡ length lent
laid-long slice lent now i size wide room e =
    ap length e ∙ length-append (flat_map slice (range_with_len 0 i)) (drop (i * size) lent)
    ∙ omega (arith, length_pieces slice size wide i, length-drop (i * size) lent, add-mul i 1 size, one-mul size)

pub loop-i-preserved : goal.loop-i-preserved
loop-i-preserved g c =
    let f = g.F.Field in
    let self = c.args.self.now in
    let C = coding_of f self.plan.now in
    let size = c.slice_length-size.result in
    let told = c.slice_length-size.ensures in
    let from = c.sources-sources.result in
    let lent = c.args.slices.now in
    let i = c.loop-i.i in
    let own = worked_slice C from.positions.now from.slices.now from.stride in
    let wide : (n j : ℕ) → length (own n j) ≡ n * f.stored = λ n j. length-combined f.ops f.stored (point_weights C (at from.positions.now) j) from.slices.now from.stride n in
    let end : (i + 1) * size ≤ 6400 = within i self.plan.now.k size (omega (arith, c.needed-i-end.ensures)) told.all in
    let long : length lent ≡ 6400 = c.told-slices in
    let room : (i + 1) * size ≤ length lent = omega (arith, end, long) in
    let m = columns C self.bytes in
    slices_more f.stored m own wide lent c.loop-i.slices c.symbols_at.new.out i size
    (stored-least f.ops g.met.F.Field.lawful f.width f.stored f.number g.met.F.Field.widths) told.value c.loop-i.invariant
    (laid-long (own m) lent c.loop-i.slices i size (λ j. wide m j ∙ sym told.value) room c.loop-i.invariant) room c.symbols_at.ensures

pub returns : goal.returns
unfolding recovered
returns g c =
    let f = g.F.Field in
    let self = c.args.self.now in
    let C = coding_of f self.plan.now in
    let m = columns C self.bytes in
    let from = c.sources-sources.result in
    let told = c.sources-sources.ensures in
    let lent = c.args.slices.now in
    let own = worked_slice C from.positions.now from.slices.now from.stride in
    let last : c.loop-i.i ≡ self.plan.now.k = omega (arith, c.needed-i-end.ensures) in
    slices_all f.stored m own (λ n j. length-combined f.ops f.stored (point_weights C (at from.positions.now) j) from.slices.now from.stride n) lent c.loop-i.slices c.loop-i.i c.slice_length-size.result self.plan.now.k
    c.slice_length-size.ensures.value last c.loop-i.invariant
    ∙ ap (λ ps. over (recovered C ps from.slices.now from.stride m) lent) told.positions
    ∙ ap (λ xs. over (recovered C self.positions.now xs from.stride m) lent) told.slices
    ∙ ap (λ n. over (recovered C self.positions.now (drop 6 self.records.now) n m) lent) told.stride

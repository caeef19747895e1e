use Rattle.std.proofs.Common.{◌≡◌, ◌+◌, ◌*◌, ◌/◌, ◌%◌, ◌<◌, ◌≤◌, length, sym, ap, ◌∙◌, subst, add-zero, add-mul, one-mul, zero-mul, arith}
use Rattle.std.proofs.lemmas.Nat.{mul-le}
use Rattle.base.specs.Bytes.{over}
use Rattle.algebra.specs.Slices.{stored_at}
use Rattle.erasure.specs.Records.{columns}
use Rattle.erasure.specs.Whole.{coding_of}
use Rattle.recovery.specs.Gathered.{gathered}
use Rattle.recovery.proofs.Laid.{Laid, laid_none, laid_next, laid_all, columns_enough}
use Rattle.recovery.proofs.Reading.{read_stored}
use Rattle.recovery.proofs.Worked.{row_of, place_of}
use Rattle.recovery.proofs.checking.Checked.gather.Goals as goal

pub loop-j-init : goal.loop-j-init
loop-j-init g c =
    let C = coding_of g.F.Field c.args.self.now.plan.now in
    let was = c.args.out.now in
    subst (Laid C c.slice_length-size.result c.args.slices.now was was) (sym (zero-mul c.needed-k.result)) (laid_none C c.slice_length-size.result c.args.slices.now was)

pub loop-i-init : goal.loop-i-init
loop-i-init g c =
    subst (Laid (coding_of g.F.Field c.args.self.now.plan.now) c.slice_length-size.result c.args.slices.now c.args.out.now c.loop-j.out) (sym (add-zero (c.loop-j.j * c.needed-k.result))) c.loop-j.invariant

pub loop-i-preserved : goal.loop-i-preserved
loop-i-preserved g c =
    let f = g.F.Field in
    let C = coding_of f c.args.self.now.plan.now in
    let k = c.args.self.now.plan.now.k in
    let i = c.loop-i.i in
    let j = c.loop-j.j in
    let t = j * c.needed-k.result + i in
    let slices = c.args.slices.now in
    let size = c.slice_length-size.result in
    let was = c.args.out.now in
    let here : i < k = omega (arith, c.needed-k.ensures) in
    let place : t % k ≡ i = ap (λ m. (j * m + i) % k) c.needed-k.ensures ∙ place_of j i k here in
    let row : t / k ≡ j = ap (λ m. (j * m + i) / k) c.needed-k.ensures ∙ row_of j i k here in
    let read : c.le_at.result ≡ stored_at f.stored slices (i * size + j * f.stored) =
    read_stored f.ops f.width f.stored f.number g.met.F.Field.widths slices (λ v. i * size + j * v) c.stored_width-stored.result c.le_at.result
    c.stored_width-stored.ensures c.le_at.ensures in
    subst (Laid C size slices was c.put_le.new.out) (omega arith)
    (laid_next C size slices was c.loop-i.out c.put_le.new.out t c.data_width-width.result c.le_at.result c.data_width-width.ensures
    (omega (arith, g.met.F.Field.widths.least)) (c.loop-i.auto.out ∙ c.loop-j.auto.out) (cc) c.loop-i.invariant c.put_le.ensures)

pub loop-j-preserved : goal.loop-j-preserved
loop-j-preserved g c =
    let j = c.loop-j.j in
    let k = c.needed-k.result in
    subst (Laid (coding_of g.F.Field c.args.self.now.plan.now) c.slice_length-size.result c.args.slices.now c.args.out.now c.loop-i.out) (omega (arith, add-mul j 1 k, one-mul k)) c.loop-i.invariant

pub overflow_mul-j-in-loop-i : goal.overflow_mul-j-in-loop-i
overflow_mul-j-in-loop-i g c =
    let k = c.needed-k.result in
    let t = c.loop-j.j * k + c.loop-i.i in
    let size = c.slice_length-size.ensures in
    let column : c.loop-j.j * k ≤ 6400 * 16 = mul-le c.loop-j.j k 6400 16 (omega (arith, size.few, size.one)) (omega (arith, c.args.self.now.plan.now.fits, c.needed-k.ensures)) in
    let most : t ≤ 102416 = omega (arith, column, c.args.self.now.plan.now.fits, c.needed-k.ensures) in
    omega (arith, mul-le t c.data_width-width.result 102416 2 most (omega (arith, g.met.F.Field.widths.most, c.data_width-width.ensures)))

pub returns : goal.returns
returns g c =
    let f = g.F.Field in
    let self = c.args.self.now in
    let C = coding_of f self.plan.now in
    let out = c.args.out.now in
    let slices = c.args.slices.now in
    let j = c.loop-j.j in
    let k = c.needed-k.result in
    let all : j ≡ columns C self.bytes = omega (arith, self.counted) in
    let most : length out / f.width ≤ j * k =
    subst (λ n. length out / f.width ≤ n) (sym (ap (λ n. n * k) all ∙ ap (λ n. columns C self.bytes * n) c.needed-k.ensures)) (columns_enough C (omega (arith, self.plan.now.fits)) (omega (arith, g.met.F.Field.widths.least)) self.bytes (length out) c.requires) in
    laid_all C c.slice_length-size.result slices out c.loop-j.out (j * k) most c.loop-j.invariant
    ∙ ap (λ n. over (gathered C n slices (length out / f.width)) out) c.slice_length-size.ensures.value

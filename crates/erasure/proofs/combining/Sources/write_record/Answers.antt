use Rattle.std.proofs.Common.{◌≡◌, ◌-◌, ◌/◌, ◌++◌, length, drop, ap, ◌∙◌}
use Rattle.base.specs.Bytes.{over}
use Rattle.algebra.specs.Polynomials.{at}
use Rattle.algebra.specs.Slices.{combined}
use Rattle.erasure.specs.Records.{head}
use Rattle.erasure.specs.Formula.{point_weights}
use Rattle.erasure.specs.Whole.{coding_of}
use Rattle.erasure.proofs.Weighing.{head_six}
use Rattle.erasure.proofs.Points.{record_written}
use Rattle.erasure.proofs.combining.Sources.write_record.Goals as goal

pub returns : goal.returns
returns g c =
    let f = g.F.Field in
    let out = c.args.out.now in
    let from = c.args.self.now in
    let ws = point_weights (coding_of f c.args.plan.now) (at from.positions.now) c.args.cabinet in
    let front = c.copy_from_slice.new.self in
    let front_is : front ≡ head (length out) f.number c.args.issue =
    c.copy_from_slice.ensures.after ∙ c.to_bytes.ensures ∙ ap (λ n. head (length out) n c.args.issue) c.field_number.ensures in
    let six : length front ≡ 6 = ap length front_is ∙ head_six (length out) f.number c.args.issue in
    record_written f.ops f.stored ws from.slices.now front out c.symbols_at.new.out from.stride six c.requires.headed c.symbols_at.ensures
    ∙ ap (λ xs. xs ++ over (combined f.ops f.stored ws from.slices.now from.stride ((length out - 6) / f.stored)) (drop 6 out)) front_is

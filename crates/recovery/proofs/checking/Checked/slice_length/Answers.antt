use Rattle.std.proofs.Common.{◌≡◌, ◌*◌, ◌≤◌, ap, ◌∙◌, subst, sym, mul-le-mul_left, mul-one, arith}
use Rattle.algebra.proofs.Stored.{stored-least}
use Rattle.erasure.specs.Whole.{coding_of}
use Rattle.erasure.proofs.Reading.{one_slice}
use Rattle.recovery.proofs.Checked.{slices_room, columns_some}
use Rattle.recovery.proofs.checking.Checked.slice_length.Goals as goal

pub returns : goal.returns
returns g c =
    let f = g.F.Field in
    let self = c.args.self.now in
    let C = coding_of f self.plan.now in
    let plan = self.plan.now.fits in
    let m = self.count in
    let size : m * c.stored_width.result ≡ m * f.stored = ap (λ n. m * n) c.stored_width.ensures in
    let all : self.plan.now.k * (m * c.stored_width.result) ≤ 6400 =
    subst (λ n. self.plan.now.k * n ≤ 6400) (sym size) (slices_room C g.met.F.Field.widths (omega (arith, plan)) (omega (arith, plan)) self.bytes m self.sized self.counted) in
    let least = stored-least f.ops g.met.F.Field.lawful f.width f.stored f.number g.met.F.Field.widths in
    let few : m ≤ m * c.stored_width.result = omega (arith, size, mul-le-mul_left m least, mul-one m) in
    record {
      some = omega (arith, few, columns_some C g.met.F.Field.widths (omega (arith, plan)) self.bytes self.sized, self.counted);
      value = size ∙ ap (λ n. n * f.stored) self.counted;
      few = few;
      one = one_slice self.plan.now.k (m * c.stored_width.result) 6400 (omega (arith, plan)) all;
      all = all;
    }

use Rattle.std.proofs.Common.{◌*◌, ◌≤◌, sym, ap, subst, arith}
use Rattle.erasure.proofs.Reading.{one_slice}
use Rattle.erasure.proofs.slicing.spread.Goals as goal

pub spread_slices-requires : goal.spread_slices-requires
spread_slices-requires g c =
    let told = c.column_count.ensures in
    let m = c.column_count.result in
    let size = m * c.stored_width.result in
    let bound : c.args.plan.now.k * size ≤ 6400 = subst (λ n. c.args.plan.now.k * (m * n) ≤ 6400) (sym c.stored_width.ensures) told.bound in
    record {
      small = one_slice c.args.plan.now.k size 6400 (omega (arith, c.args.plan.now.fits)) bound;
      room = omega (arith, ap (λ k. k * size) c.needed.ensures);
      whole = cc;
    }

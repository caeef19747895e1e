use Rattle.std.proofs.Common.{◌≡◌, ◌*◌, ◌/◌, ◌≤◌, sym, subst, arith}
use Rattle.erasure.specs.Records.{columns}
use Rattle.erasure.specs.Whole.{coding_of}
use Rattle.erasure.proofs.Reading.{ceil_is, slices_fit}
use Rattle.erasure.proofs.lengths.column_count.Goals as goal

pub returns : goal.returns
returns g c =
    let f = g.F.Field in
    let k = c.args.plan.now.k in
    let plan = c.args.plan.now.fits in
    let up = ceil_is (c.args.bytes / f.width) k (omega (arith, plan)) in
    let value : c.div_ceil.result ≡ columns (coding_of f c.args.plan.now) c.args.bytes = cc in
    record {
      value = value;
      bound = subst (λ m. k * (m * f.stored) ≤ 6400) (sym value)
          (slices_fit f.ops f.width f.stored f.number g.met.F.Field.widths k c.args.bytes (omega (arith, plan)) (omega (arith, plan)) c.requires);
    }

use Rattle.std.proofs.Common.{◌≡◌, ◌-◌, ◌≤◌, length, take, ◌∙◌, arith, rules}
use Rattle.std.proofs.lemmas.List.{length-take}
use Rattle.algebra.specs.Polynomials.{at}
use Rattle.algebra.proofs.Stored.{stored-least}
use Rattle.erasure.specs.Whole.{coding_of}
use Rattle.erasure.proofs.Reading.{one_slice}
use Rattle.erasure.proofs.Points.{combined_laid}
use Rattle.erasure.proofs.combining.cut_from.Goals as goal

pub write_record-requires : goal.write_record-requires
write_record-requires g c =
    let whole = c.in-Some.whole in
    let plan = c.args.plan.now.fits in
    let small : whole - 6 ≤ 6400 = one_slice c.args.plan.now.k (whole - 6) 6400 (omega (arith, plan)) c.in-Some.ensures.2 in
    let long : length (take (whole) c.args.out.now) ≡ whole = length-take (whole) c.args.out.now ∙ omega arith in
    record {
      fitted = omega (arith, plan, c.fitted.ensures);
      headed = omega (arith, long, c.in-Some.ensures.1);
      small = omega (arith, long, small);
    }

pub returns : goal.returns
returns g c =
    let f = g.F.Field in
    let from = c.args.sources.now in
    record {
      answers = search rules;
      fills = combined_laid (coding_of f c.args.plan.now) c.args.bytes c.args.cabinet c.args.issue (at from.positions.now) from.slices.now c.args.out.now
          c.write_record.new.out c.in-Some.whole from.stride c.in-Some.ensures.1
          (stored-least f.ops g.met.F.Field.lawful f.width f.stored f.number g.met.F.Field.widths) c.if-out-whole.false c.write_record.ensures;
    }

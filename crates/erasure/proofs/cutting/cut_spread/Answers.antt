use Rattle.std.proofs.Common.{◌≡◌, ℕ, ◌*◌, false, length, Ok, sym, ap, ◌∙◌, zero-add, arith, rules}
use Rattle.std.proofs.lemmas.List.FromFn.{get_or-range_with_len}
use Rattle.base.specs.Bytes.{over}
use Rattle.base.specs.Sizes.{misfit}
use Rattle.base.proofs.Refusing.{leaves_same}
use Rattle.erasure.specs.Records.{columns}
use Rattle.erasure.specs.Whole.{coding_of}
use Rattle.erasure.proofs.Points.{own_cut}
use Rattle.erasure.proofs.RecordOf.{cut_past}
use Rattle.erasure.proofs.cutting.cut_spread.Goals as goal

pub returns : goal.returns
returns g c =
    let C = coding_of g.F.Field c.args.plan.now in
    let L = g.met.F.Field.lawful in
    let plan = c.args.plan.now.fits in
    let out = c.args.out.now in
    let stride : misfit c.args.bytes ≡ false → c.map_or-stride.result ≡ columns C c.args.bytes * C.stored = λ fit. search rules in
    let fit : (x : ℕ) → c.cut_from.result ≡ Ok x → misfit c.args.bytes ≡ false =
    λ x e. (cut_past C L g.met.F.Field.widths c.args.plan.now.n c.args.bytes c.args.cabinet c.args.issue (length out) x (sym c.cut_from.ensures.answers ∙ e)).0 in
    record {
      answers = c.cut_from.ensures.answers;
      fills = c.cut_from.ensures.fills
          ∙ leaves_same c.cut_from.result out _ _ (λ x e. ap (λ xs. over xs out)
          (own_cut C L (omega (arith, plan)) c.args.bytes c.args.slices.now c.args.cabinet c.args.issue c.map_or-stride.result _ (stride (fit x e))
          (λ i h. get_or-range_with_len 0 16 i 0 (omega (arith, plan)) ∙ zero-add i)));
    }

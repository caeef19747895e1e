use Rattle.std.proofs.Common.{◌≡◌, ℕ, List, length, drop, replicate, Ok, sym, refl, ap, ◌∙◌, arith}
use Rattle.std.proofs.lemmas.List.{length-replicate}
use Rattle.base.proofs.Lengths.{fits}
use Rattle.base.specs.Bytes.{Bytes, over}
use Rattle.base.proofs.Refusing.{leaves_same}
use Rattle.erasure.specs.Records.{coding}
use Rattle.erasure.specs.Formula.{spread, record_of, record_from}
use Rattle.erasure.proofs.RecordOf.{record_is, spread_done, cut_past, cut_exact}
use Rattle.erasure.proofs.cutting.cut.Goals as goal

pub returns : goal.returns
returns g c =
    let f = g.F.Field in
    let L = g.met.F.Field.lawful in
    let W = g.met.F.Field.widths in
    let pkg = c.args.package.now in
    let plan = c.args.plan.now.fits in
    let C = coding f.ops f.width f.stored f.number c.args.plan.now.k in
    let bytes : Bytes pkg = λ i. (c.type_inv.package i).fits in
    let zeros : List ℕ = replicate 6400 0 in
    let out = c.args.out.now in
    let same : (x : ℕ) → c.cut_spread.result ≡ Ok x → over (record_from C (length pkg) c.spread.new.slices c.args.cabinet c.args.issue) out ≡ over (record_of C pkg c.args.cabinet c.args.issue) out =
    λ x e.
    let fit = (cut_past C L W c.args.plan.now.n (length pkg) c.args.cabinet c.args.issue (length out) x (sym c.cut_spread.ensures.answers ∙ e)).0 in
    let slices = spread_done C L W pkg zeros c.spread.new.slices c.spread.result (omega (arith, plan)) (omega (arith, plan)) (length-replicate {A = ℕ} 6400 0) (fits (length pkg) fit).2 fit
    c.spread.ensures.answers c.spread.ensures.fills in
    ap (λ xs. over xs out) (ap (λ xs. record_from C (length pkg) xs c.args.cabinet c.args.issue) slices
    ∙ record_is C L W pkg (drop (length (spread C pkg)) zeros) (length pkg) c.args.cabinet c.args.issue bytes refl) in
    record {
      answers = c.cut_spread.ensures.answers;
      fills = c.cut_spread.ensures.fills ∙ leaves_same c.cut_spread.result out _ _ same;
      exact = cut_exact C L W c.args.plan.now.n pkg c.args.cabinet c.args.issue (length out) c.cut_spread.result bytes (omega (arith, plan)) (omega (arith, plan)) c.cut_spread.ensures.answers;
    }

use Rattle.std.proofs.Common.{◌≡◌, true, false, not, ltb, length, drop, sym, ap, ◌∙◌, arith}
use Rattle.std.proofs.lemmas.Bool.{lt-ltb, not_from_true}
use Rattle.base.specs.Answers.{leaves}
use Rattle.base.specs.Bytes.{over}
use Rattle.algebra.specs.Polynomials.{at}
use Rattle.erasure.specs.Records.{issue_in, record_length}
use Rattle.erasure.specs.Formula.{combined_record}
use Rattle.erasure.specs.Slices.{cut_answer}
use Rattle.erasure.specs.Whole.{coding_of}
use Rattle.recovery.specs.Answers.{codes_fit}
use Rattle.recovery.specs.Formula.{rebuilt}
use Rattle.recovery.proofs.Checked.{records-issued, cut_rest, rebuilt_is}
use Rattle.recovery.proofs.checking.Checked.rebuild.Goals as goal

pub returns : goal.returns
returns g c =
    let self = c.args.self.now in
    let C = coding_of g.F.Field self.plan.now in
    let n = self.plan.now.n in
    let out = c.args.out.now in
    let rs = self.records.now in
    let x = c.args.cabinet in
    let from = c.sources-sources.result in
    let told = c.sources-sources.ensures in
    let issue = c.read-issue.result.issue in
    let codes : codes_fit C self.bytes rs ≡ true = sym c.codes_fit.ensures ∙ c.if-not-codes_fit.false in
    let fitted : not (ltb x n) ≡ false = not_from_true (ltb x n) (lt-ltb x n (omega (arith, c.fitted.ensures, c.if-cabinet-fitted.false))) in
    let same : combined_record C self.bytes (at from.positions.now) from.slices.now from.stride x issue ≡ rebuilt C self.bytes self.positions.now rs x =
    ap (λ ps. combined_record C self.bytes (at ps) from.slices.now from.stride x issue) told.positions
    ∙ ap (λ xs. combined_record C self.bytes (at self.positions.now) xs from.stride x issue) told.slices
    ∙ ap (λ q. combined_record C self.bytes (at self.positions.now) (drop 6 rs) q x issue) told.stride
    ∙ ap (λ q. combined_record C self.bytes (at self.positions.now) (drop 6 rs) (record_length C self.bytes) x q) c.read-issue.ensures.issue
    ∙ rebuilt_is C g.met.F.Field.lawful g.met.F.Field.widths self.bytes self.positions.now rs x in
    record {
      answers = c.cut_from.ensures.answers ∙ ap (λ q. cut_answer C n self.bytes x q (length out)) c.read-issue.ensures.issue
          ∙ cut_rest C n self.bytes rs x (issue_in rs) (length out) self.sized fitted (records-issued C self.bytes rs self.headed) codes;
      fills = c.cut_from.ensures.fills ∙ ap (λ xs. leaves c.cut_from.result out (over xs out)) same;
    }

use Rattle.std.proofs.Common.{◌≡◌, true, false, ◌++◌, length, take, drop, sym, ap, ◌∙◌, arith, rules}
use Rattle.std.proofs.lemmas.List.{length-take}
use Rattle.base.specs.Bytes.{over}
use Rattle.erasure.specs.Whole.{coding_of}
use Rattle.recovery.specs.Formula.{package_from}
use Rattle.recovery.specs.Answers.{codes_fit, data_fits}
use Rattle.recovery.proofs.Checked.{data_is, package_is, package-long}
use Rattle.recovery.proofs.checking.Checked.join.Goals as goal

pub returns-then-not-slices_fit : goal.returns-then-not-slices_fit
returns-then-not-slices_fit g c =
    let self = c.args.self.now in
    let C = coding_of g.F.Field self.plan.now in
    let codes : codes_fit C self.bytes self.records.now ≡ true = sym c.codes_fit.ensures ∙ c.if-not-codes_fit.false in
    let symbols : data_fits C self.bytes self.positions.now self.records.now ≡ false =
    sym (c.slices_fit.ensures ∙ data_is C g.met.F.Field.lawful g.met.F.Field.widths self.bytes self.positions.now self.records.now _ c.slices.ensures) ∙ c.if-not-slices_fit.true in
    search (rules, codes, symbols)

pub returns-then-out-self : goal.returns-then-out-self
returns-then-out-self g c =
    let self = c.args.self.now in
    let C = coding_of g.F.Field self.plan.now in
    let codes : codes_fit C self.bytes self.records.now ≡ true = sym c.codes_fit.ensures ∙ c.if-not-codes_fit.false in
    let symbols : data_fits C self.bytes self.positions.now self.records.now ≡ true =
    sym (c.slices_fit.ensures ∙ data_is C g.met.F.Field.lawful g.met.F.Field.widths self.bytes self.positions.now self.records.now _ c.slices.ensures) ∙ c.if-not-slices_fit.false in
    search (rules, codes, symbols)

pub returns : goal.returns
returns g c =
    let L = g.met.F.Field.lawful in
    let W = g.met.F.Field.widths in
    let self = c.args.self.now in
    let C = coding_of g.F.Field self.plan.now in
    let positions = self.positions.now in
    let records = self.records.now in
    let out = c.args.out.now in
    let own = take self.bytes out in
    let codes : codes_fit C self.bytes records ≡ true = sym c.codes_fit.ensures ∙ c.if-not-codes_fit.false in
    let symbols : data_fits C self.bytes positions records ≡ true =
    sym (c.slices_fit.ensures ∙ data_is C L W self.bytes positions records _ c.slices.ensures) ∙ c.if-not-slices_fit.false in
    let long : length own ≡ self.bytes = length-take self.bytes out ∙ omega arith in
    let is : c.gather.new.out ≡ package_from C self.bytes positions records =
    c.gather.ensures ∙ package_is C L W self.bytes positions records _ c.slices.ensures (omega (arith, self.plan.now.fits)) own long self.sized in
    let size : self.bytes ≡ length c.gather.new.out = sym (ap length is ∙ package-long C L W self.bytes positions records self.sized) in
    record {
      answers = search (rules, codes, symbols);
      fills = ap (λ n. c.gather.new.out ++ drop n out) size ∙ ap (λ xs. over xs out) is;
    }

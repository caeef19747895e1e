use borrow.Author.Tests.{tests}
use Rattle.std.proofs.Common.{ℕ, not, ◌&&◌, eqb, ltb, Bool, length, take, ap, ◌∙◌, arith, rules}
use Rattle.std.specs.List.{list_any}
use Rattle.std.proofs.lemmas.Iterator.{YieldsList-from_slice}
use Rattle.std.proofs.lemmas.Iterator.Consumers.{YieldsList-from_enumerate}
use Rattle.std.proofs.lemmas.Iterator.Search.{all_from_yields_List}
use Rattle.base.proofs.Every.{every_same}
use Rattle.algebra.specs.Polynomials.{at}
use Rattle.recovery.proofs.Chains.{all_numbered, none_before}
use Rattle.recovery.proofs.checking.all_positions_fit.Goals as goal

pub returns : goal.returns
returns c =
    let ps = c.args.positions.now in
    let test : ℕ × ℕ → Bool = λ p. ltb p.1 c.args.n && not (list_any (λ y. eqb y p.1) (take p.0 ps)) in
    all_from_yields_List test _ _ c.all.result c.all.ensures.ran (YieldsList-from_enumerate (YieldsList-from_slice ps (cc)) (cc)) (λ x b q k. search (rules, tests))
    ∙ all_numbered test ps
    ∙ every_same (length ps) _ _ (λ i h. ap (λ b. ltb (at ps i) c.args.n && b) (none_before ps i (at ps i) (omega arith)))

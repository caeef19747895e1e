use borrow.Author.Tests.{tests}
use Rattle.std.proofs.Common.{◌≡◌, ℕ, ◌+◌, ◌*◌, ◌/◌, ◌<◌, ◌≤◌, Bool, true, not, ◌&&◌, eqb, List, length, sym, ap, ◌∙◌, add-zero, mul-div_cancel, arith, rules}
use Rattle.std.proofs.lemmas.Bool.{and_from, eq-eqb, ne_eqb, not_from_false}
use Rattle.std.proofs.lemmas.Iterator.Search.{all_from_yields_List}
use Rattle.base.specs.Bytes.{le_value, part}
use Rattle.base.specs.Tests.{every}
use Rattle.base.proofs.Every.{every_same}
use Rattle.base.proofs.Pieces.{part_part}
use Rattle.erasure.specs.Records.{issue_in, record_length}
use Rattle.erasure.specs.Whole.{coding_of}
use Rattle.recovery.proofs.Chains.{chunk, chunks_yielded, all_listed}
use Rattle.recovery.proofs.checking.records_fit.Goals as goal

pub returns-then-due-ne0 : goal.returns-then-due-ne0
returns-then-due-ne0 g c =
    let f = g.F.Field in
    let C = coding_of f c.args.plan.now in
    let k = c.args.plan.now.k in
    let rs = c.args.records.now in
    let whole = c.args.whole in
    let passed = c.if-due-ne0.true in
    let pos : 0 < whole = omega (arith, c.requires.due) in
    let test : List ℕ → Bool =
    λ bs. eqb (le_value (part bs 0 2)) whole && eqb (le_value (part bs 2 2)) f.number && eqb (le_value (part bs 4 2)) (issue_in rs) in
    let head : ℕ → ℕ → Bool =
    λ w i. eqb (le_value (part rs (i * w) 2)) w && eqb (le_value (part rs (i * w + 2) 2)) f.number && eqb (le_value (part rs (i * w + 4) 2)) (issue_in rs) in
    let ran : c.all.result ≡ every (length rs / whole) (λ i. test (chunk whole rs i)) =
    all_from_yields_List test _ _ c.all.result c.all.ensures.ran (chunks_yielded whole rs _ (cc) (cc) pos) (λ x b q k. search (rules, tests)) ∙ all_listed test (chunk whole rs) (length rs / whole) in
    let long : length rs ≡ k * whole = passed.0 ∙ ap (λ n. n * whole) c.needed.ensures in
    let at_place : (i a : ℕ) → a + 2 ≤ 6 → part (chunk whole rs i) a 2 ≡ part rs (i * whole + a) 2 = λ i a h. part_part rs (i * whole) a whole 2 (omega (arith, c.requires.due)) in
    let same : (i : ℕ) → test (chunk whole rs i) ≡ head whole i =
    λ i. let first = at_place i 0 (omega arith) in let second = at_place i 2 (omega arith) in let third = at_place i 4 (omega arith) in let none = add-zero (i * whole) in cc in
    let due : eqb (length rs) (k * record_length C c.args.bytes) ≡ true = eq-eqb _ _ (long ∙ ap (λ w. k * w) c.requires.due) in
    let issued : not (eqb (issue_in rs) 0) ≡ true = not_from_false _ (ne_eqb _ _ (λ e. passed.1 (c.read.ensures.issue ∙ e))) in
    ran ∙ ap (λ n. every n (λ i. test (chunk whole rs i))) (ap (λ n. n / whole) long ∙ mul-div_cancel k pos) ∙ every_same k _ _ (λ i h. same i)
    ∙ ap (λ w. every k (head w)) c.requires.due ∙ ap (λ b. b && every k (head (record_length C c.args.bytes))) (sym (and_from _ _ due issued))

use borrow.Author.Tests.{tests}
use Rattle.std.proofs.Common.{◌≡◌, ℕ, ◌+◌, ◌-◌, ◌*◌, ◌/◌, ◌<◌, Bool, ltb, List, length, sym, ap, ◌∙◌, add_assoc, mul-le-mul_right, mul-div_cancel, add-mul, one-mul, arith, rules}
use Rattle.std.proofs.lemmas.Iterator.Search.{all_from_yields_List}
use Rattle.base.specs.Tests.{every}
use Rattle.base.proofs.Every.{every_same}
use Rattle.base.proofs.Parts.{length_part}
use Rattle.base.proofs.Pieces.{part_part}
use Rattle.base.specs.Bytes.{le_value}
use Rattle.algebra.specs.Slices.{stored_at}
use Rattle.algebra.proofs.Stored.{stored-least}
use Rattle.erasure.specs.Records.{columns, record_length}
use Rattle.erasure.specs.Whole.{coding_of}
use Rattle.recovery.proofs.Chains.{chunk, chunks_yielded, all_listed}
use Rattle.recovery.proofs.Checked.{records-long}
use Rattle.recovery.proofs.Reading.{record_within}
use Rattle.recovery.proofs.checking.Checked.codes_fit.Goals as goal

pub returns : goal.returns
returns g c =
    let f = g.F.Field in
    let v = f.stored in
    let self = c.args.self.now in
    let C = coding_of f self.plan.now in
    let k = self.plan.now.k in
    let rs = self.records.now in
    let whole = record_length C self.bytes in
    let m = columns C self.bytes in
    let due : 6 + c.slice_length.result ≡ whole = ap (λ n. 6 + n) c.slice_length.ensures.value in
    let test : List ℕ → Bool = λ bs. every ((length bs - 6) / v) (λ j. ltb (stored_at v bs (6 + j * v)) f.ops.size) in
    let long : length rs ≡ k * whole = records-long C self.bytes rs self.headed in
    let pos : 0 < v = stored-least f.ops g.met.F.Field.lawful f.width v f.number g.met.F.Field.widths in
    let ran : c.all.result ≡ every (length rs / whole) (λ i. test (chunk whole rs i)) =
    all_from_yields_List test _ _ c.all.result c.all.ensures.ran (chunks_yielded whole rs _ (cc) (c.chunks_exact.ensures.size ∙ due) (omega arith)) (λ x b q k. search (rules, tests)) ∙ all_listed test (chunk whole rs) (length rs / whole) in
    let same : (i : ℕ) → i < k → test (chunk whole rs i) ≡ every m (λ j. ltb (stored_at v rs (i * whole + 6 + j * v)) f.ops.size) =
    λ i hi. ap (λ n. every ((n - 6) / v) (λ j. ltb (stored_at v (chunk whole rs i) (6 + j * v)) f.ops.size)) (length_part rs (i * whole) whole (omega (arith, long, record_within i k whole hi)))
    ∙ ap (λ n. every n (λ j. ltb (stored_at v (chunk whole rs i) (6 + j * v)) f.ops.size)) (ap (λ n. n / v) (omega arith) ∙ mul-div_cancel m pos)
    ∙ every_same m _ _ (λ j hj. ap (λ x. ltb x f.ops.size) (ap le_value (part_part rs (i * whole) (6 + j * v) whole v (omega (arith, add-mul j 1 v, one-mul v, mul-le-mul_right v hj)))
    ∙ ap (stored_at v rs) (sym (add_assoc (i * whole) 6 (j * v))))) in
    ran ∙ ap (λ n. every n (λ i. test (chunk whole rs i))) (ap (λ n. n / whole) long ∙ mul-div_cancel k (omega arith)) ∙ every_same k _ _ same

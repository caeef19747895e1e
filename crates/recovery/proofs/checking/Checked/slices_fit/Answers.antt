use borrow.Author.Tests.{tests}
use Rattle.std.proofs.Common.{◌≡◌, ℕ, ◌+◌, ◌*◌, ◌/◌, ◌^◌, ◌<◌, Bool, cond, ltb, List, length, take, sym, ap, ◌∙◌, zero-add, mul-le-mul_right, mul-div_cancel, add-mul, one-mul, arith, rules}
use Rattle.std.proofs.lemmas.List.{length-take}
use Rattle.std.proofs.lemmas.Iterator.Consumers.{YieldsList-from_enumerate}
use Rattle.std.proofs.lemmas.Iterator.Search.{all_from_yields_List}
use Rattle.base.specs.Bytes.{le_value, part}
use Rattle.base.specs.Tests.{every}
use Rattle.base.proofs.Every.{every_same}
use Rattle.base.proofs.Parts.{length_part}
use Rattle.base.proofs.Pieces.{part_part}
use Rattle.algebra.proofs.Stored.{stored-least}
use Rattle.algebra.specs.Slices.{stored_at}
use Rattle.erasure.specs.Records.{columns}
use Rattle.erasure.specs.Whole.{coding_of}
use Rattle.recovery.proofs.Chains.{chunk, chunks_yielded, all_chunks, every_swapped}
use Rattle.recovery.proofs.Reading.{record_within}
use Rattle.recovery.proofs.checking.Checked.slices_fit.Goals as goal

pub returns : goal.returns
returns g c =
    let f = g.F.Field in
    let v = f.stored in
    let self = c.args.self.now in
    let C = coding_of f self.plan.now in
    let k = self.plan.now.k in
    let bs = c.args.slices.now in
    let m = columns C self.bytes in
    let size = c.slice_length-size.result in
    let told = c.slice_length-size.ensures in
    let front = take (c.needed.result * size) bs in
    let limit : ℕ → ℕ → ℕ = λ j i. cond (ltb (j * k + i) (self.bytes / f.width)) (256 ^ f.width) 1 in
    let test : ℕ × List ℕ → Bool = λ p. every (length p.1 / v) (λ j. ltb (stored_at v p.1 (j * v)) (limit j p.0)) in
    let all : ℕ → ℕ → ℕ → Bool = λ n j i. ltb (stored_at v bs (i * n + j * v)) (limit j i) in
    let ran : c.all.result ≡ every (length front / size) (λ i. test (i, chunk size front i)) =
    all_from_yields_List test _ _ c.all.result c.all.ensures.ran (YieldsList-from_enumerate (chunks_yielded size front _ (cc) (cc) told.some) (cc)) (λ x b q k. search (rules, tests)) ∙ all_chunks test size front in
    let long : length front ≡ k * size = length-take (c.needed.result * size) bs ∙ omega (arith, ap (λ n. n * size) c.needed.ensures, told.all) in
    let same : (i : ℕ) → i < k → test (i, chunk size front i) ≡ every m (λ j. all size j i) =
    λ i hi. ap (λ n. every (n / v) (λ j. ltb (stored_at v (chunk size front i) (j * v)) (limit j i))) (length_part front (i * size) size (omega (arith, long, record_within i k size hi)) ∙ told.value)
    ∙ ap (λ n. every n (λ j. ltb (stored_at v (chunk size front i) (j * v)) (limit j i))) (mul-div_cancel m (stored-least f.ops g.met.F.Field.lawful f.width v f.number g.met.F.Field.widths))
    ∙ every_same m _ _ (λ j hj. ap (λ x. ltb (le_value x) (limit j i))
    (part_part front (i * size) (j * v) size v (omega (arith, told.value, add-mul j 1 v, one-mul v, mul-le-mul_right v hj))
    ∙ part_part bs 0 (i * size + j * v) (c.needed.result * size) v (omega (arith, ap (λ n. n * size) c.needed.ensures, record_within i k size hi, told.value, add-mul j 1 v, one-mul v, mul-le-mul_right v hj))
    ∙ ap (λ a. part bs a v) (zero-add (i * size + j * v)))) in
    ran ∙ ap (λ n. every n (λ i. test (i, chunk size front i))) (ap (λ n. n / size) long ∙ mul-div_cancel k told.some) ∙ every_same k _ _ same
    ∙ sym (every_swapped m k (all size)) ∙ ap (λ n. every m (λ j. every k (all n j))) told.value

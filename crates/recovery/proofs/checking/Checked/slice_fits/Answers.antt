use borrow.Author.Tests.{tests}
use Rattle.std.proofs.Common.{◌≡◌, ℕ, ◌+◌, ◌*◌, ◌/◌, ◌^◌, ◌<◌, min, Bool, cond, ltb, List, length, sym, ap, ◌∙◌, subst, add-zero, arith, rules}
use Rattle.std.proofs.lemmas.Iterator.Consumers.{YieldsList-from_enumerate}
use Rattle.std.proofs.lemmas.Iterator.Search.{all_from_yields_List}
use Rattle.base.specs.Bytes.{le_value, part}
use Rattle.base.specs.Tests.{every}
use Rattle.base.proofs.Every.{every_same}
use Rattle.base.proofs.Pieces.{part_part}
use Rattle.algebra.specs.Slices.{stored_at}
use Rattle.algebra.proofs.Stored.{stored-least}
use Rattle.recovery.proofs.Chains.{chunk, chunks_yielded, all_chunks}
use Rattle.recovery.proofs.Laid.{in_slice}
use Rattle.recovery.proofs.checking.Checked.slice_fits.Goals as goal

pub returns : goal.returns
returns g c =
    let f = g.F.Field in
    let v = f.stored in
    let W = g.met.F.Field.widths in
    let self = c.args.self.now in
    let k = self.plan.now.k in
    let bs = c.args.slice.now in
    let w = c.stored_width-stored.result in
    let pos : 0 < w = subst (λ n. 0 < n) (sym c.stored_width-stored.ensures) (stored-least f.ops g.met.F.Field.lawful f.width v f.number W) in
    let own : ℕ × List ℕ → Bool = λ p. ltb (le_value (part p.1 0 (min w 4))) (cond (ltb p.0 c.div_ceil-own.result) (256 ^ f.width) 1) in
    let limit : ℕ → ℕ = λ j. cond (ltb (j * k + c.args.i) (self.bytes / f.width)) (256 ^ f.width) 1 in
    let ran : c.all.result ≡ every (length bs / w) (λ j. own (j, chunk w bs j)) =
    all_from_yields_List own _ _ c.all.result c.all.ensures.ran (YieldsList-from_enumerate (chunks_yielded w bs _ (cc) (cc) pos) (cc)) (λ x b q k. search (rules, tests)) ∙ all_chunks own w bs in
    let told : (j : ℕ) → ltb j c.div_ceil-own.result ≡ ltb (j * k + c.args.i) (self.bytes / f.width) = λ j. let counted = in_slice (self.bytes / f.width) k j c.args.i (omega (arith, self.plan.now.fits)) in cc in
    let four : min v 4 ≡ v = omega (arith, W.most, W.ratio) in
    ran ∙ every_same (length bs / w) _ _ (λ j h. ap (λ b. ltb (le_value (part (chunk w bs j) 0 (min w 4))) (cond b (256 ^ f.width) 1)) (told j))
    ∙ ap (λ n. every (length bs / n) (λ j. ltb (le_value (part (chunk n bs j) 0 (min n 4))) (limit j))) c.stored_width-stored.ensures
    ∙ every_same (length bs / v) _ _ (λ j h. ap (λ x. ltb x (limit j))
    (ap (λ n. le_value (part (chunk v bs j) 0 n)) four ∙ ap le_value (part_part bs (j * v) 0 v v (omega arith)) ∙ ap (stored_at v bs) (add-zero (j * v))))

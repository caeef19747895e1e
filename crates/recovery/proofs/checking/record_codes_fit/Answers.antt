use borrow.Author.Tests.{tests}
use Rattle.std.proofs.Common.{◌≡◌, ℕ, ◌+◌, ◌-◌, ◌*◌, ◌/◌, ◌<◌, min, Bool, ltb, List, length, take, drop, sym, ap, ◌∙◌, subst, arith, rules}
use Rattle.std.proofs.lemmas.List.{length-drop, take_all, drop-drop}
use Rattle.std.proofs.lemmas.Iterator.Search.{all_from_yields_List}
use Rattle.base.specs.Bytes.{le_value, part}
use Rattle.base.specs.Tests.{every}
use Rattle.base.proofs.Every.{every_same}
use Rattle.base.proofs.Pieces.{part_part}
use Rattle.algebra.proofs.Stored.{stored-least}
use Rattle.recovery.proofs.Chains.{chunk, chunks_yielded, all_listed}
use Rattle.recovery.proofs.checking.record_codes_fit.Goals as goal

pub returns : goal.returns
returns g c =
    let f = g.F.Field in
    let v = f.stored in
    let W = g.met.F.Field.widths in
    let bs = c.args.record.now in
    let codes = drop 6 bs in
    let w = c.stored_width-width.result in
    let pos : 0 < w = subst (λ n. 0 < n) (sym c.stored_width-width.ensures) (stored-least f.ops g.met.F.Field.lawful f.width v f.number W) in
    let test : List ℕ → Bool = λ bs. ltb (le_value (part bs 0 (min w 4))) f.ops.size in
    let all : take (length bs - 6) (drop 6 bs) ≡ codes = take_all (length bs - 6) codes (omega (arith, length-drop 6 bs)) in
    let ran : c.all.result ≡ every (length codes / w) (λ j. test (chunk w codes j)) =
    all_from_yields_List test _ _ c.all.result c.all.ensures.ran (chunks_yielded w codes _ (c.chunks_exact.ensures.rest ∙ all) (cc) pos) (λ x b q k. search (rules, tests)) ∙ all_listed test (chunk w codes) (length codes / w) in
    let four : min v 4 ≡ v = omega (arith, W.most, W.ratio) in
    ran ∙ ap (λ m. every (length codes / m) (λ j. ltb (le_value (part (chunk m codes j) 0 (min m 4))) f.ops.size)) c.stored_width-width.ensures
    ∙ ap (λ n. every (n / v) (λ j. ltb (le_value (part (chunk v codes j) 0 (min v 4))) f.ops.size)) (length-drop 6 bs)
    ∙ every_same ((length bs - 6) / v) _ _ (λ j h. ap (λ x. ltb x f.ops.size)
    (ap (λ m. le_value (part (chunk v codes j) 0 m)) four ∙ ap le_value (part_part codes (j * v) 0 v v (omega arith))
    ∙ ap (λ xs. le_value (take v xs)) (drop-drop (j * v + 0) 6 bs ∙ ap (λ n. drop n bs) (omega arith))))

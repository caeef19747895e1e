use Rattle.std.proofs.Common.{rules, ◌≡◌, ◌+◌, ◌-◌, ◌/◌, ◌%◌, ◌^◌, [], ◌∷◌, ◌++◌, length, set, sym, ap, ◌∙◌, pow-suc, div-one, add-one, zero-add, arith, length-take, length-drop}
use native.Mathlib.Nat.{div-div-eq-div-mul}
use borrow.Rule.Slice.PartMut.{put_mid}
use Rattle.std.proofs.lemmas.List.{append-nil, drop_all}
use Rattle.base.specs.Bytes.{le_bytes, part, written}
use Rattle.base.proofs.Little.{length-le_bytes}
use Rattle.base.proofs.Places.{le_bytes_more, written_none, written_more}
use Rattle.base.proofs.Pieces.{put_part}
use Rattle.base.proofs.put_le.Goals as goal

pub loop-byte-init : goal.loop-byte-init
loop-byte-init c = (sym (written_none _ 0), sym (div-one c.args.value))

pub loop-byte-preserved : goal.loop-byte-preserved
loop-byte-preserved c =
    let place = part c.args.out.now c.args.at (c.args.at + c.args.width - c.args.at) in
    let i = c.loop-byte.byte-index in
    let n = c.args.value in
    let v = c.loop-byte.invariant in (
      ap (λ xs. set xs i (c.loop-byte.rest % 256)) v.0 ∙ ap (λ k. set (written place 0 (le_bytes i n)) k (c.loop-byte.rest % 256)) (sym (zero-add i))
          ∙ written_more place (le_bytes i n) 0 i (c.loop-byte.rest % 256) (length-le_bytes i n) (omega (arith, c.loop-byte-test.true))
          ∙ ap (λ m. written place 0 (le_bytes i n ++ (m % 256) ∷ [])) v.1 ∙ ap (written place 0) (sym (le_bytes_more i n)),
      ap (λ m. m / 256) v.1 ∙ div-div-eq-div-mul n (256 ^ i) 256 ∙ ap (λ m. n / m) (sym (pow-suc 256 i) ∙ ap (λ m. 256 ^ m) (sym (add-one i))),
    )

pub returns : goal.returns
returns c =
    let xs = c.args.out.now in
    let at = c.args.at in
    let bs = le_bytes c.args.width c.args.value in
    let place = part xs at (at + c.args.width - at) in
    let wide : length bs ≡ c.args.width = length-le_bytes c.args.width c.args.value in
    let long : length place ≡ c.args.width = simp (length-take, length-drop) (omega arith) in
    let end : c.loop-byte.byte-index ≡ c.args.width = omega (arith, long, c.loop-byte.auto.byte-index-end, c.loop-byte-test.false) in
    let all : c.loop-byte.byte-items ≡ bs =
    c.loop-byte.invariant.0 ∙ ap (λ i. written place 0 (le_bytes i c.args.value)) end
    ∙ ap (λ ys. bs ++ ys) (drop_all (0 + length bs) place (omega (arith, long, wide))) ∙ append-nil bs in
    let whole : put_mid at (at + c.args.width - at) xs c.loop-byte.byte-items ≡ written xs at bs =
    ap (put_mid at (at + c.args.width - at) xs) all ∙ put_part xs bs at (at + c.args.width - at) (omega (arith, wide)) in
    search (rules, whole)

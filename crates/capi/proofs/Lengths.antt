-- The lengths that are answered are small. Assumes nothing.
use Rattle.std.proofs.Common.{◌≡◌, ℕ, ◌^◌, ◌<◌, Bool, true, false, not, ◌&&◌, ltb, List, IfOk, Ok, Result, sym, refl, subst, arith}
use Rattle.base.specs.Answers.{refuse}
use Rattle.base.specs.Sizes.{misfit}
use Rattle.base.proofs.Lengths.{fits}
use Rattle.erasure.specs.declared.fault.SliceFault.{SliceFault}
use Rattle.erasure.specs.Records.{Coding}
use Rattle.recovery.specs.Answers.{positions_fit, records_fit, codes_fit, data_fits, join_answer}

abbrev Small : ℕ → Type 0
Small m = m < 2 ^ 63

-- a fact about an answer need be shown only where the check before it is passed
past : {E : Type 0} (t : Bool) (e : E) (r : Result ℕ E) → (t ≡ false → IfOk r Small) → IfOk (refuse t e r) Small
past true e r h = tt
past false e r h = h refl

-- the answer after the check of a package's length and three more, which is that length
package_small : {E : Type 0} (bytes : ℕ) (b c d : Bool) (e1 e2 e3 e4 : E) → IfOk (refuse (misfit bytes) e1 (refuse b e2 (refuse c e3 (refuse d e4 (Ok bytes))))) Small
package_small bytes b c d e1 e2 e3 e4 =
    past (misfit bytes) e1 (refuse b e2 (refuse c e3 (refuse d e4 (Ok bytes)))) (λ h.
    past b e2 (refuse c e3 (refuse d e4 (Ok bytes))) (λ _. past c e3 (refuse d e4 (Ok bytes)) (λ _. past d e4 (Ok bytes) (λ _. omega (arith, fits bytes h)))))

pub join_small : (C : Coding) (n bytes : ℕ) (positions records : List ℕ) (out : ℕ) (r : Result ℕ SliceFault) → r ≡ join_answer C n bytes positions records out → IfOk r Small
join_small C n bytes positions records out r e =
    subst (λ answer. IfOk answer Small) (sym e)
    (package_small bytes (not (positions_fit C.needed n positions && records_fit C bytes records)) (not (codes_fit C bytes records && data_fits C bytes positions records)) (ltb out bytes) _ _ _ _)

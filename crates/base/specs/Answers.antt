-- What a call answers, with its refusals in the order of their checks, and what it leaves in an output. Assumes nothing.
use Rattle.std.specs.Prelude.{Bool, true, false, Ok, Err, Result}

-- refused with e where the test holds, else as r says
abbrev pub refuse : {T E : Type 0} → Bool → E → Result T E → Result T E
refuse true e r = Err e
refuse false e r = r

-- a lower layer's answer, its fault turned by f, and then what comes after it
abbrev pub pass : {T U E F : Type 0} → (E → F) → Result T E → (T → Result U F) → Result U F
pass f (Ok x) next = next x
pass f (Err e) next = Err (f e)

-- the new value where the call was accepted, else the old one
abbrev pub leaves : {T E X : Type 0} → Result T E → X → X → X
leaves (Ok x) old new = new
leaves (Err e) old new = old

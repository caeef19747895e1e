-- The front of an output, as a vector of its own. Assumes nothing.
use Rattle.std.specs.Prelude.{◌≡◌, ℕ, List, take, replicate, Ok, Err, Result, MatchResult}
use Rattle.std.specs.Global.{Vec}
use Rattle.base.specs.Bytes.{over}

-- as many bytes of an output's front as a call answered, or the call's refusal
abbrev pub front : {E : Type 0} → Result ℕ E → List ℕ → Result (List ℕ) E
front (Ok n) out = Ok (take n out)
front (Err e) out = Err e

-- the front of so many zeros over which bytes were written
abbrev pub front_of_zeros : {E : Type 0} → Result ℕ E → List ℕ → ℕ → Result (List ℕ) E
front_of_zeros r bs room = front r (over bs (replicate room 0))

-- an answer of these bytes, or of this refusal
abbrev pub Gives : {E : Type 0} → Result (List ℕ) E → Result (Vec ℕ) E → Type 0
Gives meant answer = MatchResult answer (λ v. meant ≡ Ok v.items) (λ e. meant ≡ Err e)

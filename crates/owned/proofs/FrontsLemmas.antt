-- The front that a call writes over zeros.
use Rattle.std.proofs.Common.{◌≡◌, ℕ, List, take, replicate, Ok, Err, Result, ap, ◌∙◌}
use Rattle.base.specs.Answers.{leaves}
use Rattle.base.specs.Bytes.{over}
use Rattle.owned.specs.Fronts.{front, front_of_zeros}

pub front_written : {E : Type 0} (r a : Result ℕ E) (bs out : List ℕ) (room : ℕ) →
    r ≡ a → out ≡ leaves r (replicate room 0) (over bs (replicate room 0)) → front r out ≡ front_of_zeros a bs room
front_written (Ok n) a bs out room same left = ap (λ o. Ok (take n o)) left ∙ ap (λ z. front z (over bs (replicate room 0))) same
front_written (Err e) a bs out room same left = ap (λ z. front z (over bs (replicate room 0))) same

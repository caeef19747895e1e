-- One more that is found leaves zeros past it. Assumes nothing.
use Rattle.std.specs.Prelude.{slice_set}
use Rattle.std.proofs.Common.{◌≡◌, ℕ, ◌+◌, ◌-◌, List, drop, replicate, sym, ap, ◌∙◌, arith}
use Rattle.std.proofs.lemmas.List.{drop-drop, drop-replicate, drop-set-lt}

pub zeros_kept : (xs : List ℕ) (n x : ℕ) → drop n xs ≡ replicate (16 - n) 0 → drop (n + 1) (slice_set xs n x) ≡ replicate (16 - (n + 1)) 0
zeros_kept xs n x zeros =
    drop-set-lt (n + 1) xs n x (omega arith) ∙ sym (drop-drop 1 n xs) ∙ ap (drop 1) zeros ∙ drop-replicate 1 (16 - n) 0 ∙ ap (λ m. replicate m 0) (omega arith)

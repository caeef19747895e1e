-- The parts of a record that is written: a head of six bytes, and a body after it. Assumes nothing.
use Rattle.std.proofs.Common.{◌≡◌, ℕ, ◌+◌, ◌-◌, ◌*◌, List, ◌++◌, length, drop, refl, sym, ap, ◌∙◌, arith}
use Rattle.std.proofs.lemmas.List.{take_at, drop_all, append-nil, length-append, length-drop}
use borrow.Rule.Slice.PartMut.{put_mid, post_of}
use Rattle.base.proofs.Pieces.{put_part, length-stored}
use Rattle.algebra.specs.Fields.{Ops}
use Rattle.algebra.specs.Slices.{combined_at, combined}
use Rattle.erasure.specs.Records.{head}

-- a head of six bytes, and then a body over all the rest of an output
pub laid : (front out body : List ℕ) (n : ℕ) → length front ≡ 6 → length out ≡ 6 + n → length body ≡ n →
    put_mid 6 (length (front ++ post_of 0 6 out) - 6) (front ++ post_of 0 6 out) body ≡ front ++ body
laid front out body n ef eo eb =
    let whole = front ++ drop 6 out in
    let rest : length whole - 6 ≡ n = ap (λ m. m - 6) (length-append front (drop 6 out)) ∙ omega (arith, ef, eo, length-drop 6 out) in
    put_part whole body 6 (length whole - 6) (eb ∙ sym rest)
    ∙ ap (λ xs. xs ++ (body ++ drop (6 + length body) whole)) (take_at front (drop 6 out) 6 ef)
    ∙ ap (λ xs. front ++ (body ++ xs)) (drop_all (6 + length body) whole (omega (arith, eb, ef, eo, length-append front (drop 6 out), length-drop 6 out)))
    ∙ ap (λ xs. front ++ xs) (append-nil body)

pub head_six : (whole number issue : ℕ) → length (head whole number issue) ≡ 6
unfolding head
head_six whole number issue = refl

pub length-combined : (f : Ops) (v : ℕ) (ws slices : List ℕ) (stride n : ℕ) → length (combined f v ws slices stride n) ≡ n * v
unfolding combined
length-combined f v ws slices stride n = length-stored (λ j. combined_at f v ws slices stride (j * v)) v n

-- The frame of a file: its length, its parts, and when a list is a frame. Assumes nothing.
use Rattle.std.proofs.Common.{◌≡◌, ℕ, zero, suc, ◌+◌, ◌-◌, ◌*◌, ◌/◌, ◌%◌, ◌<◌, ◌≤◌, ltb, List, ◌++◌, length, get_or, take, drop, replicate, sym, refl, ap, ◌∙◌, subst, ⊎_elim, arith, lit<}
use Rattle.std.proofs.lemmas.List.{append_assoc, drop_at, get_or_past, length-append, length-drop, length-replicate, length-take-le, take-append-drop, take_at, take-replicate}
use Rattle.std.proofs.lemmas.Bool.{cases_lt, ltb-true}
use Rattle.base.specs.Tests.{every}
use Rattle.base.proofs.Every.{every_at}
use Rattle.base.specs.Bytes.{Bytes, le_bytes, le_value, over, part}
use Rattle.base.proofs.Little.{Bytes-le_bytes, le_bytes-le_value, le_value-le_bytes}
use Rattle.aont.specs.Package.{canary, file_in, frame, message}
use Rattle.base.proofs.Parts.{Bytes-append, Bytes-drop, Bytes-take, over_next, take-add}

-- what a frame has before its zeros, and the zeros put behind it
abbrev plain : ℕ → List ℕ → List ℕ
plain number file = le_bytes 2 (length file) ++ (le_bytes 2 number ++ file)

abbrev padded : List ℕ → List ℕ
padded bs = bs ++ replicate ((16 - length bs % 16) % 16) 0

frame_is : (number : ℕ) (file : List ℕ) → frame number file ≡ padded (plain number file)
unfolding frame
frame_is number file = refl

-- the number of zeros
pad : (n end : ℕ) → end ≡ 4 + n → (16 - end % 16) % 16 ≡ 16 * ((n + 19) / 16) - (4 + n)
pad n end e = omega arith

length-plain : (number : ℕ) (file : List ℕ) → length (plain number file) ≡ 4 + length file
length-plain number file = omega arith

Bytes-zeros : (n : ℕ) → Bytes (replicate n 0)
Bytes-zeros zero i = lit< tt
Bytes-zeros (suc n) zero = lit< tt
Bytes-zeros (suc n) (suc i) = Bytes-zeros n i

Bytes-canary : Bytes canary
unfolding every
Bytes-canary i = ⊎_elim
    (λ l. ltb-true (get_or canary i 0) 256 (every_at 16 (λ j. ltb (get_or canary j 0) 256) refl i l))
    (λ l. omega (arith, get_or_past canary i 0 l)) (cases_lt i 16)

module _ (number : ℕ) (file : List ℕ) where
  zeros_number : (16 - length (plain number file) % 16) % 16 ≡ 16 * ((length file + 19) / 16) - (4 + length file)
  zeros_number = pad (length file) (length (plain number file)) (length-plain number file)

  frame_parts : frame number file ≡ plain number file ++ replicate (16 * ((length file + 19) / 16) - (4 + length file)) 0
  frame_parts = frame_is number file ∙ ap (λ n. plain number file ++ replicate n 0) zeros_number

  pub length-frame : length (frame number file) ≡ 16 * ((length file + 19) / 16)
  length-frame =
      let zeros : List ℕ = replicate (16 * ((length file + 19) / 16) - (4 + length file)) 0 in
      ap length frame_parts ∙ length-append (plain number file) zeros
      ∙ omega (arith, length-plain number file, length-replicate {A = ℕ} (16 * ((length file + 19) / 16) - (4 + length file)) 0)

  pub length-message : length (message number file) ≡ 16 * ((length file + 19) / 16 + 1)
  length-message = length-append (frame number file) canary ∙ omega (arith, length-frame)

  pub Bytes-message : Bytes file → Bytes (message number file)
  Bytes-message h =
      let ends = 16 * ((length file + 19) / 16) - (4 + length file) in
      let front : Bytes (plain number file) =
      Bytes-append (le_bytes 2 (length file)) (le_bytes 2 number ++ file) (Bytes-le_bytes 2 (length file)) (Bytes-append (le_bytes 2 number) file (Bytes-le_bytes 2 number) h) in
      Bytes-append (frame number file) canary (subst Bytes (sym frame_parts) (Bytes-append (plain number file) (replicate ends 0) front (Bytes-zeros ends))) Bytes-canary

  -- the parts of a frame
  pub length-named : length file < 65536 → le_value (take 2 (frame number file)) ≡ length file
  unfolding frame
  length-named h = le_value-le_bytes 2 (length file) h

  pub number_named : number < 65536 → le_value (part (frame number file) 2 2) ≡ number
  unfolding frame
  number_named h = le_value-le_bytes 2 number h

  pub file_named : part (frame number file) 4 (length file) ≡ file
  unfolding frame
  file_named = take_at file (replicate ((16 - length (plain number file) % 16) % 16) 0) (length file) refl

  pub zeros_named : drop (4 + length file) (frame number file) ≡ replicate (length (frame number file) - (4 + length file)) 0
  zeros_named =
      let n = 16 * ((length file + 19) / 16) - (4 + length file) in
      ap (drop (4 + length file)) frame_parts
      ∙ drop_at (plain number file) (replicate n 0) (4 + length file) (length-plain number file)
      ∙ ap (λ m. replicate m 0) (sym (ap (λ m. m - (4 + length file)) length-frame))

  pub file_in-frame : length file < 65536 → file_in (frame number file) ≡ file
  file_in-frame h = ap (part (frame number file) 4) (length-named h) ∙ file_named

-- a list of whole blocks that names this number, a file that ends in its last block, and zeros behind that, is a frame
pub frame_from : (number : ℕ) (fr : List ℕ) (k : ℕ) → Bytes fr → length fr ≡ 16 * k
    → le_value (part fr 2 2) ≡ number → 4 + le_value (take 2 fr) ≤ length fr → length fr < 20 + le_value (take 2 fr)
    → drop (4 + le_value (take 2 fr)) fr ≡ replicate (length fr - (4 + le_value (take 2 fr))) 0
    → frame number (file_in fr) ≡ fr
frame_from number fr k bytes whole names within last zeros =
    let n = le_value (take 2 fr) in
    let file = file_in fr in
    let size : length file ≡ n = length-take-le n (drop 4 fr) (omega (arith, length-drop 4 fr)) in
    let two : length (take 2 fr) ≡ 2 = length-take-le 2 fr (omega arith) in
    let two_more : length (part fr 2 2) ≡ 2 = length-take-le 2 (drop 2 fr) (omega (arith, length-drop 2 fr)) in
    let first : le_bytes 2 n ≡ take 2 fr = ap (λ w. le_bytes w n) (sym two) ∙ le_bytes-le_value (take 2 fr) (Bytes-take 2 fr bytes) in
    let second : le_bytes 2 number ≡ part fr 2 2 =
    ap (le_bytes 2) (sym names) ∙ ap (λ w. le_bytes w (le_value (part fr 2 2))) (sym two_more)
    ∙ le_bytes-le_value (part fr 2 2) (Bytes-take 2 (drop 2 fr) (Bytes-drop 2 fr bytes)) in
    let front : plain number file ≡ take (4 + n) fr =
    ap (λ m. le_bytes 2 m ++ (le_bytes 2 number ++ file)) size ∙ ap (λ z. z ++ (le_bytes 2 number ++ file)) first
    ∙ ap (λ z. take 2 fr ++ (z ++ file)) second ∙ sym (append_assoc (take 2 fr) (part fr 2 2) file)
    ∙ ap (λ z. z ++ file) (sym (take-add 2 2 fr)) ∙ sym (take-add 4 n fr) in
    let behind : (16 - length (plain number file) % 16) % 16 ≡ length fr - (4 + n) = omega (arith, length-plain number file) in
    frame_is number file ∙ ap (λ m. plain number file ++ replicate m 0) behind ∙ ap (λ z. z ++ replicate (length fr - (4 + n)) 0) front
    ∙ ap (λ z. take (4 + n) fr ++ z) (sym zeros) ∙ take-append-drop (4 + n) fr

-- the zeros that are put behind a file, taken from a block of zeros
pub zeros_are : (n : ℕ) → take (16 * ((n + 19) / 16) - (4 + n) - 0) (replicate {A = ℕ} 16 0) ≡ replicate (16 * ((n + 19) / 16) - (4 + n)) 0
zeros_are n = take-replicate _ 16 0 (omega arith) ∙ ap (λ m. replicate m 0) (omega arith)

-- a message that is written piece by piece
pub laid : (number : ℕ) (file d lengths numbers zeros : List ℕ) (s1 s2 s3 s4 s5 : List ℕ)
    → lengths ≡ le_bytes 2 (length file) → numbers ≡ le_bytes 2 number → zeros ≡ replicate (16 * ((length file + 19) / 16) - (4 + length file)) 0
    → s1 ≡ take 0 d ++ (lengths ++ drop (0 + length lengths) d)
    → s2 ≡ take 2 s1 ++ (numbers ++ drop (2 + length numbers) s1)
    → s3 ≡ take 4 s2 ++ (file ++ drop (4 + length file) s2)
    → s4 ≡ take (4 + length file) s3 ++ (zeros ++ drop (4 + length file + length zeros) s3)
    → s5 ≡ take (16 * ((length file + 19) / 16)) s4 ++ (canary ++ drop (16 * ((length file + 19) / 16) + 16) s4)
    → s5 ≡ over (message number file) d
laid number file d lengths numbers zeros s1 s2 s3 s4 s5 el en ez e1 e2 e3 e4 e5 =
    let a1 = le_bytes 2 (length file) in
    let a2 = a1 ++ le_bytes 2 number in
    let a3 = plain number file in
    let f1 : s1 ≡ over a1 d = e1 ∙ ap (λ z. z ++ drop (0 + length z) d) el in
    let f2 : s2 ≡ over a2 d =
    e2 ∙ ap (λ z. take 2 s1 ++ (z ++ drop (2 + length z) s1)) en ∙ ap (λ s. take 2 s ++ (le_bytes 2 number ++ drop (2 + 2) s)) f1
    ∙ over_next a1 (le_bytes 2 number) d 2 refl in
    let f3 : s3 ≡ over a3 d =
    e3 ∙ ap (λ s. take 4 s ++ (file ++ drop (4 + length file) s)) f2 ∙ over_next a2 file d 4 refl in
    let f4 : s4 ≡ over (frame number file) d =
    e4 ∙ ap (λ s. take (4 + length file) s ++ (zeros ++ drop (4 + length file + length zeros) s)) f3
    ∙ over_next a3 zeros d (4 + length file) (length-plain number file)
    ∙ ap (λ z. over (a3 ++ z) d) ez ∙ ap (λ z. over z d) (sym (frame_parts number file)) in
    e5 ∙ ap (λ s. take (16 * ((length file + 19) / 16)) s ++ (canary ++ drop (16 * ((length file + 19) / 16) + 16) s)) f4
    ∙ over_next (frame number file) canary d (16 * ((length file + 19) / 16)) (length-frame number file)

-- The tests of a package: they hold of what a file was sealed to, and of nothing else. Assumes nothing.
use Rattle.std.proofs.Common.{◌≡◌, ℕ, ◌+◌, ◌-◌, ◌*◌, ◌<◌, ◌≤◌, Bool, true, false, cond, List, length, get_or, take, drop, replicate, Some, None, Decides, EachIndex, Option, sym, refl, ap, ◌∙◌, subst, arith, rules}
use Rattle.std.specs.Str.{bytes_eq}
use Rattle.std.proofs.lemmas.Slice.Eq.{bytes_eq-Decides}
use Rattle.std.proofs.lemmas.List.{ext_get_or, get_or-drop, get_or-replicate, get_or-take, length-drop, length-replicate, take-take}
use Rattle.std.proofs.lemmas.Bool.{both_ways, cond-false, cond-true}
use Rattle.base.specs.Bytes.{Bytes, le_value, part}
use Rattle.cipher.specs.Blocks.{CipherLaws}
use Rattle.aont.specs.Package.{block, canary, canary_in, frame, frame_in, message_in}
use Rattle.base.specs.Sizes.{misfit}
use Rattle.aont.specs.Seals.{framed, unsealed}
use Rattle.aont.proofs.Framing.{frame_from, length-frame, length-named, number_named, zeros_named}
use Rattle.base.proofs.Pieces.{part_part}
use Rattle.base.proofs.Lengths.{fits}
use Rattle.aont.proofs.Sealed.{Bytes-frame_in, canary_block, length-frame_in, length-message_in}
use Rattle.aont.proofs.Steps.{block_at, length_block}

tested : (r : Bool) (xs ys : List ℕ) → Decides r (xs ≡ ys) → r ≡ bytes_eq xs ys
tested r xs ys h = search (rules, bytes_eq-Decides)

block_place : (bs : List ℕ) (i j : ℕ) → j < 16 → get_or (block (i + 1) bs) j 0 ≡ get_or bs (16 * i + j) 0
block_place bs i j l = ap (λ b. get_or b j 0) (sym (block_at bs i)) ∙ get_or-take 16 (drop (16 * i) bs) j 0 l ∙ get_or-drop (16 * i) bs j 0

-- a block that is zero from a place on, by its part from there on
cleared : (r : Bool) (from : ℕ) (last : List ℕ) → length last ≡ 16 → Decides r (EachIndex (drop from last) (λ k. get_or (drop from last) k 0 ≡ 0))
    → Decides r ((k : ℕ) → from ≤ k → k < 16 → get_or last k 0 ≡ get_or (replicate 16 0) k 0)
cleared r from last long d = (
  λ t k low l.
      let j = k - from in
      let same : k ≡ from + j = omega arith in
      let within : j < length (drop from last) = omega (arith, length-drop from last) in
      ap (λ m. get_or last m 0) same ∙ sym (get_or-drop from last j 0) ∙ d.0 t j within ∙ sym (get_or-replicate 16 k 0 0 l),
  λ zeros. d.1 (λ j l.
      let within : from + j < 16 = omega (arith, length-drop from last) in
      get_or-drop from last j 0 ∙ zeros (from + j) (omega arith) within ∙ get_or-replicate 16 (from + j) 0 0 within),
)

-- a list of whole blocks ends in zeros where its last block does
module _ (fr last : List ℕ) (i n : ℕ) (long : length fr ≡ 16 * i + 16) (place : (k : ℕ) → k < 16 → get_or last k 0 ≡ get_or fr (16 * i + k) 0) where
  abbrev Zeros : Type 0
  Zeros = drop (4 + n) fr ≡ replicate (length fr - (4 + n)) 0

  padded_from_zeros : Zeros → (k : ℕ) → 4 + n ≤ 16 * i + k → k < 16 → get_or last k 0 ≡ get_or (replicate 16 0) k 0
  padded_from_zeros zeros k low l =
      let j = 16 * i + k - (4 + n) in
      let same : 16 * i + k ≡ 4 + n + j = omega arith in
      let inside : j < length fr - (4 + n) = omega arith in
      let zero : get_or fr (4 + n + j) 0 ≡ 0 =
      sym (get_or-drop (4 + n) fr j 0) ∙ ap (λ z. get_or z j 0) zeros ∙ get_or-replicate (length fr - (4 + n)) j 0 0 inside in
      place k l ∙ ap (λ m. get_or fr m 0) same ∙ zero ∙ sym (get_or-replicate 16 k 0 0 l)

  zeros_from_padded : 16 * i < 4 + n → ((k : ℕ) → 4 + n ≤ 16 * i + k → k < 16 → get_or last k 0 ≡ get_or (replicate 16 0) k 0) → Zeros
  zeros_from_padded low padded =
      let m = length fr - (4 + n) in
      ext_get_or 0 (drop (4 + n) fr) (replicate m 0) (length-drop (4 + n) fr ∙ sym (length-replicate {A = ℕ} m 0))
      (λ j l.
      let k = 4 + n + j - 16 * i in
      let inside : j < m = omega (arith, length-drop (4 + n) fr) in
      let same : 4 + n + j ≡ 16 * i + k = omega arith in
      let under : k < 16 = omega arith in
      let zero : get_or last k 0 ≡ 0 = padded k (omega arith) under ∙ get_or-replicate 16 k 0 0 under in
      get_or-drop (4 + n) fr j 0 ∙ ap (λ q. get_or fr q 0) same ∙ sym (place k under) ∙ zero ∙ sym (get_or-replicate m j 0 0 inside))

module _ (E : List ℕ → List ℕ → List ℕ) (pkg : List ℕ) (fit : misfit (length pkg) ≡ false) where
  pub canary_test : (i : ℕ) (b : List ℕ) (r : Bool) → 16 * i ≡ length pkg - 32 → b ≡ block (i + 1) (message_in E pkg)
      → r ≡ bytes_eq b canary → r ≡ bytes_eq (canary_in E pkg) canary
  canary_test i b r at e d = d ∙ ap (λ z. bytes_eq z canary) (e ∙ canary_block E pkg fit i at)

  -- the first block says of the frame what the frame itself says
  length_first : le_value (take 2 (block 1 (message_in E pkg))) ≡ le_value (take 2 (frame_in E pkg))
  length_first =
      let enough : 2 ≤ length pkg - 32 = omega (arith, fits (length pkg) fit) in
      ap (λ b. le_value (take 2 b)) (sym (block_at (message_in E pkg) 0))
      ∙ ap le_value (take-take 2 16 (message_in E pkg) (omega arith) ∙ sym (take-take 2 (length pkg - 32) (message_in E pkg) enough))

  number_first : le_value (part (block 1 (message_in E pkg)) 2 2) ≡ le_value (part (frame_in E pkg) 2 2)
  number_first =
      let enough : 2 + 2 ≤ length pkg - 32 = omega (arith, fits (length pkg) fit) in
      ap (λ b. le_value (part b 2 2)) (sym (block_at (message_in E pkg) 0))
      ∙ ap le_value (part_part (message_in E pkg) 0 2 16 2 (omega arith) ∙ sym (part_part (message_in E pkg) 0 2 (length pkg - 32) 2 enough))

  -- a place of the last block is a place of the frame
  place_last : (i k : ℕ) → 16 * i + 16 ≡ length pkg - 32 → k < 16 → get_or (block (i + 1) (message_in E pkg)) k 0 ≡ get_or (frame_in E pkg) (16 * i + k) 0
  place_last i k e l = block_place (message_in E pkg) i k l ∙ sym (get_or-take (length pkg - 32) (message_in E pkg) (16 * i + k) 0 (omega arith))

  -- the number, the length and the zeros that a frame has, as its first and its last block have them
  abbrev pub Header : ℕ → List ℕ → Type 0
  Header number first = (le_value (part first 2 2) ≡ number) × (4 + le_value (take 2 first) ≤ length pkg - 32) × (length pkg - 32 < 20 + le_value (take 2 first))

  abbrev pub Padded : ℕ → List ℕ → Type 0
  Padded n last = (k : ℕ) → n + 20 - (length pkg - 32) ≤ k → k < 16 → get_or last k 0 ≡ get_or (replicate 16 0) k 0

  -- what the code tests of the last block
  abbrev pub Clear : ℕ → List ℕ → Type 0
  Clear n last = let from = n + 20 - (length pkg - 32) in EachIndex (drop from last) (λ k. get_or (drop from last) k 0 ≡ 0)

  module _ (number : ℕ) (laws : CipherLaws number E) (bytes : Bytes pkg) (first : List ℕ) (e1 : first ≡ block 1 (message_in E pkg)) where
    size_first : le_value (take 2 first) ≡ le_value (take 2 (frame_in E pkg))
    size_first = ap (λ b. le_value (take 2 b)) e1 ∙ length_first

    small : frame number (unsealed E number pkg) ≡ frame_in E pkg → length (unsealed E number pkg) < 65536
    small f = omega (arith, length-frame number (unsealed E number pkg), ap length f, length-frame_in E pkg fit, fits (length pkg) fit)

    -- the length that an accepted frame names is that of its file
    pub size_of : frame number (unsealed E number pkg) ≡ frame_in E pkg → le_value (take 2 first) ≡ length (unsealed E number pkg)
    size_of f = size_first ∙ ap (λ z. le_value (take 2 z)) (sym f) ∙ length-named number (unsealed E number pkg) (small f)

    pub header_of : frame number (unsealed E number pkg) ≡ frame_in E pkg → Header number first
    header_of f =
        let n = size_of f in
        let long : length (frame number (unsealed E number pkg)) ≡ length pkg - 32 = ap length f ∙ length-frame_in E pkg fit in
        let rounded = length-frame number (unsealed E number pkg) in (
          ap (λ b. le_value (part b 2 2)) e1 ∙ number_first ∙ ap (λ z. le_value (part z 2 2)) (sym f)
              ∙ number_named number (unsealed E number pkg) laws.small,
          omega arith,
          omega arith,
        )

    module _ (i : ℕ) (last : List ℕ) (at : 16 * i + 16 ≡ length pkg - 32) (e2 : last ≡ block (i + 1) (message_in E pkg)) where
      place : (k : ℕ) → k < 16 → get_or last k 0 ≡ get_or (frame_in E pkg) (16 * i + k) 0
      place k l = ap (λ b. get_or b k 0) e2 ∙ place_last i k at l

      pub padded_of : frame number (unsealed E number pkg) ≡ frame_in E pkg → Padded (le_value (take 2 first)) last
      padded_of f k low l =
          let fr = frame_in E pkg in
          let n = length (unsealed E number pkg) in
          let size : le_value (take 2 first) ≡ n = size_of f in
          let long : length fr ≡ length pkg - 32 = length-frame_in E pkg fit in
          let zeros : drop (4 + n) fr ≡ replicate (length fr - (4 + n)) 0 =
          ap (drop (4 + n)) (sym f) ∙ zeros_named number (unsealed E number pkg) ∙ ap (λ z. replicate (length z - (4 + n)) 0) f in
          padded_from_zeros fr last i n (omega arith) place zeros k (omega arith) l

      pub frame_of : Header number first → Padded (le_value (take 2 first)) last → frame number (unsealed E number pkg) ≡ frame_in E pkg
      frame_of h p =
          let fr = frame_in E pkg in
          let n = le_value (take 2 fr) in
          let size : le_value (take 2 first) ≡ n = size_first in
          let long : length fr ≡ length pkg - 32 = length-frame_in E pkg fit in
          frame_from number fr (i + 1) (Bytes-frame_in E number laws pkg bytes fit) (omega arith)
          (sym (ap (λ b. le_value (part b 2 2)) e1 ∙ number_first) ∙ h.0) (omega arith) (omega arith)
          (zeros_from_padded fr last i n (omega arith) place (omega arith) (λ k low l. p k (omega arith) l))

    -- the length that is answered after the two tests, by the numbers that the code has read
    module _ (number1 : ℕ) (en : number1 ≡ number) (h : Bool) (d : Decides h (Header number1 first)) where
      abbrev answer : Option ℕ
      answer = cond (framed E number pkg) (Some (length (unsealed E number pkg))) None

      header : Decides h (Header number first)
      header = subst (λ m. Decides h (Header m first)) en d

      answer_no : framed E number pkg ≡ false → None ≡ answer
      answer_no e = sym (cond-false (framed E number pkg) (Some (length (unsealed E number pkg))) None e)

      pub no_header : h ≡ false → None ≡ answer
      no_header left =
          answer_no (sym (tested false (frame number (unsealed E number pkg)) (frame_in E pkg)
          (λ t. absurd (both_ways true (sym t) refl), λ f. absurd (both_ways h left (header.1 (header_of f))))))

      module _ (taken : h ≡ true) (i : ℕ) (last : List ℕ) (at : 16 * i + 16 ≡ length pkg - 32) (e2 : last ≡ block (i + 1) (message_in E pkg))
          (n : ℕ) (es : n ≡ le_value (take 2 first)) (r : Bool) (d2 : Decides r (Clear n last)) where
        padding : Decides r (Padded (le_value (take 2 first)) last)
        padding =
            let within : 16 * i + 16 ≤ length (message_in E pkg) = omega (arith, length-message_in E pkg fit, fits (length pkg) fit) in
            let long : length last ≡ 16 = ap length e2 ∙ length_block (message_in E pkg) i within in
            subst (λ m. Decides r (Padded m last)) es (cleared r (n + 20 - (length pkg - 32)) last long d2)

        both : r ≡ framed E number pkg
        both =
            tested r (frame number (unsealed E number pkg)) (frame_in E pkg)
            (λ t. frame_of i last at e2 (header.0 taken) (padding.0 t), λ f. padding.1 (padded_of i last at e2 f))

        pub no_padding : r ≡ false → None ≡ answer
        no_padding e = answer_no (sym both ∙ e)

        pub its_length : r ≡ true → Some n ≡ answer
        its_length e =
            let is : framed E number pkg ≡ true = sym both ∙ e in
            ap Some (es ∙ size_of ((bytes_eq-Decides (frame number (unsealed E number pkg)) (frame_in E pkg)).0 is))
            ∙ sym (cond-true (framed E number pkg) (Some (length (unsealed E number pkg))) None is)

-- Packages: what is sealed comes out again, and what is accepted was sealed. Assumes nothing.
use Rattle.std.proofs.Common.{◌≡◌, ℕ, ◌+◌, ◌-◌, ◌*◌, ◌/◌, ◌<◌, ◌≤◌, false, not, ltb, List, ◌++◌, length, take, drop, Ok, Result, sym, refl, ap, ◌∙◌, subst, arith}
use Rattle.std.specs.Str.{bytes_eq}
use Rattle.std.proofs.lemmas.Slice.Eq.{bytes_eq-Decides}
use Rattle.std.proofs.lemmas.List.{drop_at, length-append, length-drop, length-take-le, take-append-drop, take_at}
use Rattle.std.proofs.lemmas.Bool.{le-ltb, not-false, not_from_true}
use Rattle.base.specs.Answers.{leaves, refuse}
use Rattle.base.specs.Bytes.{Bytes, le_value, over, part}
use Rattle.cipher.specs.Blocks.{Block, CipherLaws, xor}
use Rattle.aont.specs.declared.fault.SealFault.{SealFault}
use Rattle.aont.specs.declared.fault.SealFault.TheVariants.{CanaryWrong, NoSuchFile, OutputShort, PackageMisfit}
use Rattle.aont.specs.Package.{block, body, bound, canary, canary_in, file_in, frame, frame_in, key_in, masked, message, message_in, number_block, package_length, sealed}
use Rattle.base.specs.Sizes.{misfit}
use Rattle.base.proofs.Lengths.{fits, fits_so}
use Rattle.base.proofs.Refusing.{past, passes}
use Rattle.aont.specs.Seals.{Seals, Unseals, unseal_answer, unsealed}
use Rattle.aont.proofs.Framing.{Bytes-message, file_in-frame, length-frame, length-message}
use Rattle.base.proofs.Pieces.{part_part}
use Rattle.base.proofs.Parts.{Bytes-append, Bytes-drop, Bytes-take}
use Rattle.aont.proofs.Steps.{block_at, block_end}
use Rattle.aont.proofs.Transform.{block_masked, bound_back, bound_block, Bytes-masked, length-bound, length-masked, masked_back}

-- a chain of refusals that ends well has passed each test
same_from : (xs ys : List ℕ) → not (bytes_eq xs ys) ≡ false → xs ≡ ys
same_from xs ys h = (bytes_eq-Decides xs ys).0 (not-false (bytes_eq xs ys) h)

module _ (E : List ℕ → List ℕ → List ℕ) (number : ℕ) (key file : List ℕ) (wide : length key ≡ 16) where
  -- the masked blocks
  abbrev blocks : List ℕ
  blocks = masked E key (message number file)

  abbrev pkg : List ℕ
  pkg = sealed E number key file

  pub length-blocks : length blocks ≡ 16 * ((length file + 19) / 16 + 1)
  length-blocks = length-masked E key (message number file) ((length file + 19) / 16 + 1) (length-message number file)

  parts : pkg ≡ blocks ++ bound E key blocks
  unfolding sealed
  parts = refl

  pub length-sealed : length pkg ≡ package_length (length file)
  length-sealed = ap length parts ∙ length-append blocks (bound E key blocks) ∙ omega (arith, length-blocks, length-bound E key blocks wide)

  body_sealed : body pkg ≡ blocks
  body_sealed = ap (take (length pkg - 16)) parts ∙ take_at blocks (bound E key blocks) (length pkg - 16) (omega (arith, length-sealed, length-blocks))

  last_sealed : drop (length pkg - 16) pkg ≡ bound E key blocks
  last_sealed = ap (drop (length pkg - 16)) parts ∙ drop_at blocks (bound E key blocks) (length pkg - 16) (omega (arith, length-sealed, length-blocks))

  pub key_in-sealed : key_in E pkg ≡ key
  unfolding key_in
  key_in-sealed = ap (λ k. bound E k (body pkg)) last_sealed ∙ ap (bound E (bound E key blocks)) body_sealed ∙ bound_back E key blocks wide

  pub message_in-sealed : message_in E pkg ≡ message number file
  unfolding message_in
  message_in-sealed =
      ap (λ k. masked E k (body pkg)) key_in-sealed ∙ ap (masked E key) body_sealed
      ∙ masked_back E key (message number file) ((length file + 19) / 16 + 1) (length-message number file)

  frame-size : length (frame number file) ≡ length pkg - 32
  frame-size = omega (arith, length-sealed, length-frame number file)

  pub frame_in-sealed : frame_in E pkg ≡ frame number file
  frame_in-sealed = ap (take (length pkg - 32)) message_in-sealed ∙ take_at (frame number file) canary (length pkg - 32) frame-size

  pub canary_in-sealed : canary_in E pkg ≡ canary
  canary_in-sealed = ap (drop (length pkg - 32)) message_in-sealed ∙ drop_at (frame number file) canary (length pkg - 32) frame-size

  pub Bytes-sealed : CipherLaws number E → Bytes key → Bytes file → Bytes pkg
  Bytes-sealed laws k h =
      let m : Bytes blocks = Bytes-masked E number laws key (message number file) (wide, k) (Bytes-message number file h) in
      subst Bytes (sym parts) (Bytes-append blocks (bound E key blocks) m (bound_block E number laws key blocks (wide, k) m).1)

  pub unsealed-sealed : length file < 65536 → unsealed E number pkg ≡ file
  unsealed-sealed small = ap file_in frame_in-sealed ∙ file_in-frame number file small

module _ (E : List ℕ → List ℕ → List ℕ) (pkg : List ℕ) (fit : misfit (length pkg) ≡ false) where
  -- the number of blocks that are masked
  abbrev count : ℕ
  count = length pkg / 16 - 1

  pub length_body : length (body pkg) ≡ 16 * count
  length_body = length-take-le (length pkg - 16) pkg (omega arith) ∙ omega (arith, fits (length pkg) fit)

  pub length_last : length (drop (length pkg - 16) pkg) ≡ 16
  length_last = length-drop (length pkg - 16) pkg ∙ omega (arith, fits (length pkg) fit)

  pub length-message_in : length (message_in E pkg) ≡ length pkg - 16
  unfolding message_in
  length-message_in = length-masked E (key_in E pkg) (body pkg) count length_body ∙ omega (arith, fits (length pkg) fit)

  pub length-frame_in : length (frame_in E pkg) ≡ length pkg - 32
  length-frame_in = length-take-le (length pkg - 32) (message_in E pkg) (omega (arith, length-message_in))

  -- the blocks that hold the bound key and the canary
  pub last_block : (i : ℕ) → 16 * i ≡ length pkg - 16 → block (i + 1) pkg ≡ drop (length pkg - 16) pkg
  last_block i e = block_end pkg i (length pkg - 16) e (omega arith)

  pub canary_block : (i : ℕ) → 16 * i ≡ length pkg - 32 → block (i + 1) (message_in E pkg) ≡ canary_in E pkg
  canary_block i e = block_end (message_in E pkg) i (length pkg - 32) e (omega (arith, length-message_in))

  pub block_in : (i : ℕ) → 16 * i + 32 ≤ length pkg → block (i + 1) (message_in E pkg) ≡ xor (block (i + 1) pkg) (E (key_in E pkg) (number_block (i + 1)))
  unfolding message_in
  block_in i l =
      let start : 0 + 16 * i ≡ 16 * i = omega arith in
      let same : block (i + 1) (body pkg) ≡ block (i + 1) pkg =
      sym (block_at (body pkg) i) ∙ part_part pkg 0 (16 * i) (length pkg - 16) 16 (omega arith) ∙ ap (λ a. part pkg a 16) start ∙ block_at pkg i in
      block_masked E (key_in E pkg) (body pkg) count length_body i (omega (arith, fits (length pkg) fit))
      ∙ ap (λ b. xor b (E (key_in E pkg) (number_block (i + 1)))) same

  -- that block as the code works it out, with a key that it has found
  pub plain_is : (i : ℕ) (key b : List ℕ) → 16 * i + 32 ≤ length pkg → key ≡ key_in E pkg → b ≡ xor (block (i + 1) pkg) (E key (number_block (i + 1)))
      → b ≡ block (i + 1) (message_in E pkg)
  plain_is i key b l ek eb = eb ∙ ap (λ k. xor (block (i + 1) pkg) (E k (number_block (i + 1)))) ek ∙ sym (block_in i l)

  -- what is accepted was sealed
  pub resealed : (number : ℕ) → canary_in E pkg ≡ canary → frame number (unsealed E number pkg) ≡ frame_in E pkg
      → sealed E number (key_in E pkg) (unsealed E number pkg) ≡ pkg
  unfolding sealed message_in key_in
  resealed number c f =
      let key = key_in E pkg in
      let last = drop (length pkg - 16) pkg in
      let said : message number (unsealed E number pkg) ≡ message_in E pkg =
      ap (λ z. z ++ canary) f ∙ ap (λ z. frame_in E pkg ++ z) (sym c) ∙ take-append-drop (length pkg - 32) (message_in E pkg) in
      let under : masked E key (message number (unsealed E number pkg)) ≡ body pkg =
      ap (masked E key) said ∙ masked_back E key (body pkg) count length_body in
      ap (λ ms. ms ++ bound E key ms) under ∙ ap (λ z. body pkg ++ z) (bound_back E last (body pkg) length_last)
      ∙ take-append-drop (length pkg - 16) pkg

module _ (E : List ℕ → List ℕ → List ℕ) (number : ℕ) (laws : CipherLaws number E) (pkg : List ℕ) (bytes : Bytes pkg) where
  module _ (fit : misfit (length pkg) ≡ false) where
    Bytes-body : Bytes (body pkg)
    Bytes-body = Bytes-take (length pkg - 16) pkg bytes

    pub key_in_block : Block (key_in E pkg)
    unfolding key_in
    key_in_block =
        bound_block E number laws (drop (length pkg - 16) pkg) (body pkg)
        (length_last E pkg fit, Bytes-drop (length pkg - 16) pkg bytes) Bytes-body

    pub Bytes-message_in : Bytes (message_in E pkg)
    unfolding message_in
    Bytes-message_in = Bytes-masked E number laws (key_in E pkg) (body pkg) key_in_block Bytes-body

    pub Bytes-frame_in : Bytes (frame_in E pkg)
    Bytes-frame_in = Bytes-take (length pkg - 32) (message_in E pkg) Bytes-message_in

    accepted : canary_in E pkg ≡ canary → frame number (unsealed E number pkg) ≡ frame_in E pkg → Seals E number (unsealed E number pkg) pkg
    accepted c f =
        let fr = frame_in E pkg in
        let file = unsealed E number pkg in
        record {
          bytes = Bytes-take (le_value (take 2 fr)) (drop 4 fr) (Bytes-drop 4 fr Bytes-frame_in);
          short = omega (arith, length-frame number file, ap length f, length-frame_in E pkg fit, fits (length pkg) fit);
          key = key_in E pkg;
          block = key_in_block;
          seals = resealed E pkg fit number c f;
        }

  -- what a package of a file passes on its way out
  abbrev Found : List ℕ → List ℕ → Type 0
  Found file p =
      (unsealed E number p ≡ file) × (misfit (length p) ≡ false) × (canary_in E p ≡ canary) × (frame number (unsealed E number p) ≡ frame_in E p)

  found : (file : List ℕ) → Seals E number file pkg → Found file pkg
  found file s =
      let key = s.key in
      let wide = s.block.0 in
      let p = sealed E number key file in
      let size : length p ≡ package_length (length file) = length-sealed E number key file wide in
      let small : length file < 65536 = omega (arith, s.short) in
      let within : length file ≤ 4092 = s.short in
      let framed = frame_in-sealed E number key file wide in
      let names : unsealed E number p ≡ file = unsealed-sealed E number key file wide small in
      subst (Found file) s.seals (
        names,
        fits_so (length p) (omega arith) (omega arith) (omega arith),
        canary_in-sealed E number key file wide,
        ap (frame number) names ∙ sym framed,
      )

  -- the answer and the output say of the package what Unseals asks
  pub exact : (answer : Result ℕ SealFault) (before after : List ℕ) → answer ≡ unseal_answer E number pkg (length before)
      → after ≡ leaves answer before (over (unsealed E number pkg) before) → Unseals E number pkg answer before after
  exact answer before after said left =
      let file = unsealed E number pkg in
      let out = length before in
      let no_canary = not (bytes_eq (canary_in E pkg) canary) in
      let no_file = not (bytes_eq (frame number file) (frame_in E pkg)) in
      let rest3 : Result ℕ SealFault = refuse (ltb out (length file)) OutputShort (Ok (length file)) in
      let rest2 : Result ℕ SealFault = refuse no_file NoSuchFile rest3 in
      let rest1 : Result ℕ SealFault = refuse no_canary CanaryWrong rest2 in
      record {
        only =
            λ n e.
            let p0 = past (misfit (length pkg)) PackageMisfit rest1 n (sym said ∙ e) in
            let p1 = past no_canary CanaryWrong rest2 n p0.1 in
            let p2 = past no_file NoSuchFile rest3 n p1.1 in
            let p3 = past (ltb out (length file)) OutputShort (Ok (length file)) n p2.1 in
            let size : n ≡ length file = let h = p3.1 in cc in (
              file,
              accepted p0.0 (same_from (canary_in E pkg) canary p1.0) (same_from (frame number file) (frame_in E pkg) p2.0),
              size,
              left ∙ ap (λ a. leaves a before (over file before)) e,
            );
        each =
            λ found-file s le.
            let f = found found-file s in
            let size : length file ≡ length found-file = ap length f.0 in
            let answers : answer ≡ Ok (length found-file) =
            said ∙ passes (misfit (length pkg)) PackageMisfit rest1 f.1
            ∙ passes no_canary CanaryWrong rest2 (not_from_true (bytes_eq (canary_in E pkg) canary) ((bytes_eq-Decides (canary_in E pkg) canary).1 f.2))
            ∙ passes no_file NoSuchFile rest3
            (not_from_true (bytes_eq (frame number file) (frame_in E pkg)) ((bytes_eq-Decides (frame number file) (frame_in E pkg)).1 f.3))
            ∙ passes (ltb out (length file)) OutputShort (Ok (length file)) (le-ltb out (length file) (omega arith)) ∙ ap Ok size in
            (answers, left ∙ ap (λ a. leaves a before (over file before)) answers ∙ ap (λ z. over z before) f.0);
      }

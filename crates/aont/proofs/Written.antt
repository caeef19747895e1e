-- What the steps of sealing and unsealing leave in an output. Assumes nothing.
use Rattle.std.proofs.Common.{◌≡◌, ℕ, ◌+◌, ◌-◌, ◌*◌, ◌≤◌, min, false, List, ◌++◌, length, take, drop, sym, ap, ◌∙◌, arith}
use Rattle.std.proofs.lemmas.List.{drop_at, length-drop, length-take, length-take-le, take_all, take_at}
use Rattle.base.specs.Bytes.{le_value, over, part}
use Rattle.aont.specs.Package.{block, bound, frame_in, masked, message, message_in, package_length, sealed}
use Rattle.base.specs.Sizes.{misfit}
use Rattle.aont.specs.Seals.{unsealed}
use Rattle.aont.proofs.Framing.{length-message}
use Rattle.base.proofs.Pieces.{part_part}
use Rattle.base.proofs.Parts.{over_next, take-add, take-size, take-upto}
use Rattle.base.proofs.Lengths.{fits}
use Rattle.aont.proofs.Sealed.{length-blocks, length-frame_in}
use Rattle.aont.proofs.Steps.{block_at}

pub block_whole : (key : List ℕ) → length key ≡ 16 → block 1 key ≡ key
unfolding block
block_whole key h = take_all 16 key (omega arith)

over_front : (a d : List ℕ) (n : ℕ) → length a ≡ n → take (n - 0) (over a d) ≡ a
over_front a d n h = take_at a (drop (length a) d) (n - 0) (omega arith)

over_back : (a b d : List ℕ) (n : ℕ) → length a ≡ n → length b ≡ n → b ++ drop (n - 0) (over a d) ≡ over b d
over_back a b d n ha hb =
    ap (λ z. b ++ z) (drop_at a (drop (length a) d) (n - 0) (omega arith)) ∙ ap (λ m. b ++ drop m d) (omega arith)

-- a message laid out, masked in place, and the bound key put behind it
pub written : (E : List ℕ → List ℕ → List ℕ) (number : ℕ) (key file d : List ℕ) (end : ℕ)
    → length key ≡ 16 → end ≡ package_length (length file) - 16
    → (key1 key2 : List ℕ) (number1 : ℕ) → key1 ≡ block 1 key → key2 ≡ key1 → number1 ≡ number
    → (s1 ms last s2 : List ℕ) → s1 ≡ over (message number1 file) d → ms ≡ masked E key2 (take (end - 0) s1)
    → last ≡ bound E key1 (take (end - 0) (ms ++ drop (end - 0) s1))
    → s2 ≡ take end (ms ++ drop (end - 0) s1) ++ (last ++ drop (end + length last) (ms ++ drop (end - 0) s1))
    → s2 ≡ over (sealed E number key file) d
unfolding sealed
written E number key file d end wide size key1 key2 number1 k1 k2 n1 s1 ms last s2 e1 em el e2 =
    let m = message number file in
    let blocks = masked E key m in
    let long : length m ≡ end = length-message number file ∙ omega arith in
    let long_blocks : length blocks ≡ end = length-blocks E number key file wide ∙ omega arith in
    let same_key : key1 ≡ key = k1 ∙ block_whole key wide in
    let laid : s1 ≡ over m d = e1 ∙ ap (λ n. over (message n file) d) n1 in
    let mask : ms ≡ blocks =
    em ∙ ap (λ k. masked E k (take (end - 0) s1)) (k2 ∙ same_key) ∙ ap (λ s. masked E key (take (end - 0) s)) laid ∙ ap (masked E key) (over_front m d end long) in
    let turned : ms ++ drop (end - 0) s1 ≡ over blocks d =
    ap (λ z. z ++ drop (end - 0) s1) mask ∙ ap (λ s. blocks ++ drop (end - 0) s) laid ∙ over_back m blocks d end long long_blocks in
    let bind : last ≡ bound E key blocks =
    el ∙ ap (λ k. bound E k (take (end - 0) (ms ++ drop (end - 0) s1))) same_key ∙ ap (λ s. bound E key (take (end - 0) s)) turned
    ∙ ap (bound E key) (over_front blocks d end long_blocks) in
    e2 ∙ ap (λ s. take end s ++ (last ++ drop (end + length last) s)) turned ∙ over_next blocks last d end long_blocks
    ∙ ap (λ z. over (blocks ++ z) d) bind

-- the file that a package names, as a part of the message
module _ (E : List ℕ → List ℕ → List ℕ) (number : ℕ) (pkg : List ℕ) (fit : misfit (length pkg) ≡ false) where
  pub length-unsealed : 4 + length (unsealed E number pkg) ≤ length pkg - 32
  length-unsealed =
      let fr = frame_in E pkg in
      omega (arith, length-take (le_value (take 2 fr)) (drop 4 fr), length-drop 4 fr, length-frame_in E pkg fit, fits (length pkg) fit)

  pub unsealed_part : unsealed E number pkg ≡ part (message_in E pkg) 4 (length (unsealed E number pkg))
  unsealed_part =
      let fr = frame_in E pkg in
      sym (take-size (le_value (take 2 fr)) (drop 4 fr)) ∙ part_part (message_in E pkg) 0 4 (length pkg - 32) (length (unsealed E number pkg)) length-unsealed

-- the piece of a file that one block holds, put behind the pieces before it
pub piece_next : (msg file d : List ℕ) (i : ℕ) → file ≡ part msg 4 (length file) → 16 * i ≤ length file + 3
    → (b s s1 : List ℕ) (at from end : ℕ) → b ≡ block (i + 1) msg → at ≡ 16 * i - 4 → from ≡ 4 - 16 * i → end ≡ min (length file) (16 * i + 12)
    → s ≡ over (take (16 * i - 4) file) d
    → s1 ≡ take at s ++ (take (from + (end - at) - from) (drop from b) ++ drop (at + length (take (from + (end - at) - from) (drop from b))) s)
    → s1 ≡ over (take (16 * (i + 1) - 4) file) d
piece_next msg file d i whole low b s s1 at from end eb ea ef ee e e1 =
    let n = length file in
    let count : from + (end - at) - from ≡ end - at = omega arith in
    let piece : take (from + (end - at) - from) (drop from b) ≡ part file at (end - at) =
    ap (λ m. part b from m) count ∙ ap (λ z. part z from (end - at)) (eb ∙ sym (block_at msg i))
    ∙ part_part msg (16 * i) from 16 (end - at) (omega arith) ∙ ap (λ a. part msg a (end - at)) (omega arith)
    ∙ sym (part_part msg 4 at n (end - at) (omega arith)) ∙ ap (λ z. part z at (end - at)) (sym whole) in
    let front : length (take at file) ≡ at = length-take-le at file (omega arith) in
    let sum : at + (end - at) ≡ end = omega arith in
    e1 ∙ ap (λ z. take at s ++ (z ++ drop (at + length z) s)) piece
    ∙ ap (λ z. take at z ++ (part file at (end - at) ++ drop (at + length (part file at (end - at))) z)) (e ∙ ap (λ a. over (take a file) d) (sym ea))
    ∙ over_next (take at file) (part file at (end - at)) d at front
    ∙ ap (λ z. over z d) (sym (take-add at (end - at) file) ∙ ap (λ m. take m file) (sum ∙ ee) ∙ take-upto (16 * i + 12) file ∙ ap (λ m. take m file) (omega arith))

pub piece_all : (file d s : List ℕ) (i : ℕ) → length file ≤ 16 * i - 4 → s ≡ over (take (16 * i - 4) file) d → s ≡ over file d
piece_all file d s i h e = e ∙ ap (λ z. over z d) (take_all (16 * i - 4) file h)

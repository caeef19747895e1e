-- From the round keys of a key to its cipher, round by round. Assumes nothing.
use Rattle.std.proofs.Common.{◌≡◌, ℕ, suc, ◌+◌, ◌<◌, ◌≤◌, List, [], map, length, get_or, set, drop, sym, ap, ◌∙◌, add-one, arith}
use borrow.Rule.Slice.PartMut.{mid_of}
use Rattle.std.proofs.lemmas.List.FromFn.{fill_by_all, get_or-map-range_with_len}
use Rattle.std.proofs.lemmas.List.Edits.{fill_by_more}
use Rattle.std.proofs.lemmas.List.{length-map, length-set, get_or-drop, get_or-map, get_or-take, map-set}
use Rattle.cipher.specs.Blocks.{xor}
use Rattle.aes128.specs.declared.columns.Columns.{Columns}
use Rattle.aes128.specs.Aes.{round, last_round, round_key, rounds, aes}
use Rattle.aes128.specs.Columns.{state_of, RoundKeys}

pub key_at_lem : (key : List ℕ) (ks : List Columns) → RoundKeys key ks → (none : Columns) (r : ℕ) → r < 11 → state_of (get_or ks r none) ≡ round_key key r
key_at_lem key ks h none r less =
    let size : length ks ≡ 11 = sym (length-map ks state_of) ∙ ap length h in
    sym (get_or-map state_of ks r none [] (omega arith)) ∙ ap (λ l. get_or l r []) h ∙ get_or-map-range_with_len (round_key key) 0 11 r r [] less (omega arith)

-- of the nine between the first and the last
pub key_between : (key : List ℕ) (ks : List Columns) → RoundKeys key ks → (none : Columns) (r : ℕ) → r < 9 → state_of (get_or (mid_of 1 9 ks) r none) ≡ round_key key (1 + r)
key_between key ks h none r less =
    ap state_of (get_or-take 9 (drop 1 ks) r none less ∙ get_or-drop 1 ks r none) ∙ key_at_lem key ks h none (1 + r) (omega arith)

pub first_state : (key block s k w : List ℕ) → s ≡ block → k ≡ round_key key 0 → w ≡ xor s k → w ≡ rounds key block 0
unfolding rounds
first_state key block s k w es ek ew = ew ∙ simp (es, ek)

pub next_state : (key block : List ℕ) (i : ℕ) (s k w : List ℕ) → s ≡ rounds key block i → k ≡ round_key key (1 + i) → w ≡ round k s → w ≡ rounds key block (i + 1)
unfolding rounds
next_state key block i s k w es ek ew =
    let e : 1 + i ≡ suc i = omega arith in
    ew ∙ ap (round k) es ∙ ap (λ l. round l (rounds key block i)) (ek ∙ ap (round_key key) e) ∙ ap (rounds key block) (sym (add-one i))

pub last_state : (key block s k w : List ℕ) → s ≡ rounds key block 9 → k ≡ round_key key 10 → w ≡ last_round k s → w ≡ aes key block
last_state key block s k w es ek ew = ew ∙ simp (es, ek)

-- a schedule of which i round keys are written
abbrev pub Begun : List ℕ → List Columns → ℕ → Type 0
Begun key ks i = (length ks ≡ 11) × ((r : ℕ) → r < i → get_or (map state_of ks) r [] ≡ round_key key r)

pub begun_more : (key : List ℕ) (ks : List Columns) (i : ℕ) (k : Columns) → i < 11 → Begun key ks i → state_of k ≡ round_key key i → Begun key (set ks i k) (i + 1)
begun_more key ks i k less b e =
    let within : i < length (map state_of ks) = rw (length-map ks state_of ∙ b.0) less in
    (length-set ks i k ∙ b.0, simp (map-set, e) (fill_by_more (round_key key) (map state_of ks) i [] within b.1))

pub begun_all : (key : List ℕ) (ks : List Columns) (i : ℕ) → 11 ≤ i → Begun key ks i → RoundKeys key ks
begun_all key ks i le b = fill_by_all (round_key key) (map state_of ks) 11 [] (length-map ks state_of ∙ b.0) (λ r less. b.1 r (omega arith))

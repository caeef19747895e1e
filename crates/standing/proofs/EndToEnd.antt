-- Records that are read end to end. Assumes nothing.
use Rattle.std.proofs.Common.{◌≡◌, ℕ, ◌+◌, ◌*◌, ◌<◌, ◌≤◌, Bool, true, leb, List, [], ◌∷◌, length, get_or, take, drop, Ok, Err, Result, sym, refl, ap, ◌∙◌, ⊎_elim, mul-le-mul_right, add-mul, one-mul, zero-mul, add-one, arith}
use borrow.Rule.Slice.PartMut.{put_mid}
use Rattle.std.specs.List.{flat_map, AllByRecursion}
use Rattle.std.proofs.ByRecursion.{All-get_or, All-take}
use Rattle.std.proofs.lemmas.List.{flat_map_more, length-append, length-drop, length-take-le, take_all, take_more}
use Rattle.std.proofs.lemmas.Bool.{cases_lt, leb-true}
use Rattle.base.specs.Answers.{leaves}
use Rattle.base.specs.Bytes.{over, written}
use Rattle.base.proofs.Parts.{over_next}
use Rattle.base.proofs.Pieces.{over_whole, put_part}
use Rattle.base.proofs.Refusing.{leaves_ok}
use Rattle.rows.specs.declared.fault.Fault.{Fault}
use Rattle.rows.specs.declared.fault.RowCause.{RowCause}
use Rattle.rows.specs.Calls.{read_answer}
use Rattle.rows.specs.Model.{RowModel, Slot, Sound, Empty, Condemned, Held, held}
use Rattle.rows.proofs.Laws.{read_accepted}
use Rattle.standing.specs.Gather.{Holds}
use Rattle.standing.proofs.Laws.{reached_there}

-- piece i of so many that have room
pub piece_within : (i n width room now : ℕ) (fits : Bool) → i < n → fits ≡ leb (n * width) room → fits ≡ true → now ≡ room → i * width + width ≤ now
piece_within i n width room now fits h e t same =
    omega (arith, add-mul i 1 width, one-mul width, mul-le-mul_right width h, leb-true (n * width) room (sym e ∙ t))

-- all records
pub gathered : (f : ℕ → List ℕ) (was now cs : List ℕ) (i : ℕ) → length cs ≤ i → now ≡ over (flat_map f (take i cs)) was → now ≡ over (flat_map f cs) was
gathered f was now cs i le e = e ∙ ap (λ xs. over (flat_map f xs) was) (take_all i cs le)

leaves_either : {T E X : Type 0} (r : Result T E) (x : X) → leaves r x x ≡ x
leaves_either (Ok a) x = refl
leaves_either (Err e) x = refl

module _ (m : RowModel) (S : Sound m) (f width : ℕ) where
  abbrev bytes : ℕ → List ℕ
  bytes c = held (m.slot c f)

  a_file : (c : ℕ) (bs : List ℕ) → m.slot c f ≡ Held bs → f < 8
  a_file c bs is = ⊎_elim (λ l. l)
      (λ l. let z : Empty ≡ Held bs = sym (S.no_file c f l) ∙ is in let y : ◌≡◌ {A = ℕ} 0 1 = cc in absurd (omega arith)) (cases_lt f 8)

  -- what a cabinet has for the file is read, be it nothing
  read_leaves : (c n : ℕ) (buffer : List ℕ) → Holds m f width c → width ≤ n → leaves (read_answer m c f n) buffer (over (bytes c) buffer) ≡ over (bytes c) buffer
  read_leaves c n buffer h le = by (m.slot c f) refl
    where
      by : (s : Slot) → m.slot c f ≡ s → leaves (read_answer m c f n) buffer (over (held s) buffer) ≡ over (held s) buffer
      by Empty is = leaves_either (read_answer m c f n) buffer
      by Condemned is = leaves_either (read_answer m c f n) buffer
      by (Held bs) is =
          let long : length bs ≤ n = omega (arith, ap (λ s. length (held s)) is, h.1) in
          leaves_ok (read_answer m c f n) (length bs) buffer (over bs buffer) (read_accepted m c f n bs (reached_there m S c h.0) (a_file c bs is) h.0 is long)

  pub length-records : (cs : List ℕ) → AllByRecursion (Holds m f width) cs → length (flat_map bytes cs) ≡ length cs * width
  length-records [] h = sym (zero-mul width)
  length-records (c ∷ cs) h = omega (
    arith,
    length-append (bytes c) (flat_map bytes cs),
    h.0.1,
    length-records cs h.1,
    add-mul (length cs) 1 width,
    one-mul width,
    ap (λ n. n * width) (add-one (length cs)),
  )

  -- one more record
  pub gather_next : (was now last cs : List ℕ) (i c k : ℕ) (answer : Result ℕ (Fault RowCause)) → AllByRecursion (Holds m f width) cs → i < length cs → i * width + width ≤ length now → k ≡ width →
      c ≡ get_or cs i 0 → now ≡ over (flat_map bytes (take i cs)) was → answer ≡ read_answer m c f (length (take k (drop (i * width) now))) →
      last ≡ leaves answer (take k (drop (i * width) now)) (over (bytes c) (take k (drop (i * width) now))) →
      put_mid (i * width) k now last ≡ over (flat_map bytes (take (i + 1) cs)) was
  gather_next was now last cs i c k answer all lt room ek ec e ea read =
      let place = i * width in
      let front = flat_map bytes (take i cs) in
      let piece = take k (drop place now) in
      let x = get_or cs i 0 in
      let here : Holds m f width x = All-get_or (Holds m f width) cs i 0 lt all in
      let wide : length piece ≡ width = ap (λ n. length (take n (drop place now))) ek ∙ length-take-le width (drop place now) (omega (arith, length-drop place now)) in
      let own : last ≡ bytes x =
      read ∙ ap (λ a. leaves a piece (over (bytes c) piece)) ea ∙ ap (λ y. leaves (read_answer m y f (length piece)) piece (over (bytes y) piece)) ec ∙ read_leaves x (length piece) piece here (omega arith)
      ∙ over_whole (bytes x) piece (omega (arith, here.1)) in
      let long : length front ≡ place = length-records (take i cs) (All-take (Holds m f width) i cs all) ∙ ap (λ n. n * width) (length-take-le i cs (omega arith)) in
      put_part now last place k (ap length own ∙ here.1 ∙ sym ek) ∙ ap (λ xs. written xs place last) e ∙ ap (λ xs. written (over front was) place xs) own
      ∙ over_next front (bytes x) was place long
      ∙ ap (λ xs. over xs was) (flat_map_more bytes [] (take i cs) x ∙ ap (flat_map bytes) (sym (take_more cs i 0 lt)))

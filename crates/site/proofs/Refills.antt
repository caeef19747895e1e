-- A refill: one file after the other, each of which leaves the others as they were. Assumes nothing.
use Rattle.std.proofs.Common.{◌≡◌, ℕ, zero, suc, ◌+◌, ◌-◌, ◌^◌, ◌<◌, ◌≤◌, Bool, true, false, cond, not, ◌&&◌, eqb, ltb, List, length, take, is_ok, Ok, Err, Result, sym, refl, ap, ◌∙◌, subst, ⊎_elim, arith}
use Rattle.std.proofs.lemmas.List.{length-take}
use Rattle.std.proofs.lemmas.Bool.{cases_eq, and_from, and_left, and_parts, and_right, eq-eqb, le-ltb, lt-ltb, ne_eqb, not-false, not_from_false}
use Rattle.base.specs.Answers.{leaves, pass}
use Rattle.erasure.specs.declared.fault.SliceFault.{SliceFault}
use Rattle.erasure.specs.declared.head.Head.{Head}
use Rattle.recovery.specs.Answers.{rebuild_answer}
use Rattle.recovery.specs.Formula.{rebuilt}
use Rattle.rows.specs.Model.{RowModel, Slot, Sound, Held, with_slot}
use Rattle.rows.proofs.Laws.{same_model}
use Rattle.standing.specs.Sets.{set_of}
use Rattle.standing.proofs.Members.{set_next, set_none}
use Rattle.site.specs.declared.fault.SiteCause.{SiteCause}
use Rattle.site.specs.declared.fault.SiteCause.TheVariants.{Slice}
use Rattle.site.specs.declared.files.Kept.{Kept}
use Rattle.site.specs.Calls.{of_current, rebuilding, rebuilt_record}
use Rattle.site.specs.Model.{SiteModel, code, due, fitted, kept, lacking, package_bytes, positions, records, too_few, whole, with_row}
use Rattle.site.specs.Orders.{refilled_row, served}
use Rattle.site.specs.Steps.{lacks}
use Rattle.site.proofs.Repairs.{is_current_now}
use Rattle.site.proofs.Rewriting.{lacks_told}
use Rattle.site.proofs.Rounds.{same_below}

-- The row with the slots of one cabinet changed for the first files that pass a test.
module _ (m : RowModel) (c : ℕ) (test : ℕ → Bool) (new : ℕ → Slot) where
  abbrev pub upto : ℕ → RowModel
  upto i = record { count = m.count; room = m.room; reach = m.reach; slot = λ d g. cond (eqb d c && ltb g i && test g) (new g) (m.slot d g) }

  kept_by_later : (i d g : ℕ) → ltb g i ≡ false → (upto i).slot d g ≡ m.slot d g
  kept_by_later i d g t = ap (λ b. cond b (new g) (m.slot d g)) (and_left (eqb d c && ltb g i) (test g) (and_right (eqb d c) (ltb g i) t))

  upto_none : m ≡ upto 0
  upto_none = same_model m (upto 0) refl refl (λ d. refl) (λ d g. sym (kept_by_later 0 d g (le-ltb g 0 (omega arith))))

  upto_next : (f : ℕ) → test f ≡ true → with_slot (upto f) c f (new f) ≡ upto (f + 1)
  upto_next f passes = same_model (with_slot (upto f) c f (new f)) (upto (f + 1)) refl refl (λ d. refl) (λ d g. ⊎_elim (λ e. here d g (eq-eqb d c e)) (λ ne. there d g (ne_eqb d c ne)) (cases_eq d c))
    where
      here : (d g : ℕ) → eqb d c ≡ true → (with_slot (upto f) c f (new f)).slot d g ≡ (upto (f + 1)).slot d g
      here d g t = ⊎_elim
          (λ e.
          let u : eqb g f ≡ true = eq-eqb g f e in
          let w : ltb g (f + 1) ≡ true = lt-ltb g (f + 1) (omega arith) in
          let v : test g ≡ true = ap test e ∙ passes in
          rw (t, u, w, v) (ap new (sym e)))
          (λ ne. let u : eqb g f ≡ false = ne_eqb g f ne in rw (t, u, same_below g f ne))
          (cases_eq g f)

      there : (d g : ℕ) → eqb d c ≡ false → (with_slot (upto f) c f (new f)).slot d g ≡ (upto (f + 1)).slot d g
      there d g t = rw t

  upto_past : (f : ℕ) → test f ≡ false → upto f ≡ upto (f + 1)
  upto_past f fails = same_model (upto f) (upto (f + 1)) refl refl (λ d. refl) (λ d g. ⊎_elim
      (λ e.
      let v : test g ≡ false = ap test e ∙ fails in
      ap (λ b. cond b (new g) (m.slot d g)) (and_right (eqb d c && ltb g f) (test g) v ∙ sym (and_right (eqb d c && ltb g (f + 1)) (test g) v)))
      (λ ne. ap (λ b. cond (eqb d c && b && test g) (new g) (m.slot d g)) (sym (same_below g f ne)))
      (cases_eq g f))

  upto_more : (f : ℕ) (b : Bool) → b ≡ test f → cond b (with_slot (upto f) c f (new f)) (upto f) ≡ upto (f + 1)
  upto_more f true e = upto_next f (sym e)
  upto_more f false e = upto_past f (sym e)

module _ (S : SiteModel) (c : ℕ) (short : Bool) where
  abbrev new : ℕ → Slot
  new g = Held (rebuilt_record S g c)

  -- how far a refill has come: the files written, and the site
  pub record Refilling (f written : ℕ) (now : SiteModel) : Type 0 where
    pub set : written ≡ set_of (served S c short) f
    pub site : now ≡ with_row S (upto S.row c (served S c short) new f)

  pub refilling_none : Refilling 0 0 S
  refilling_none = record { set = sym (set_none (served S c short)); site = ap (with_row S) (upto_none S.row c (served S c short) new) }

  pub refilling_done : (f written : ℕ) (now : SiteModel) → f ≡ 8 → Refilling f written now → Refilling 8 written now
  refilling_done f written now e r = subst (λ n. Refilling n written now) e r

  -- a file that is still to come is as it was: what is told of it goes by its own slots
  module _ (f : ℕ) where
    abbrev now_row : RowModel
    now_row = upto S.row c (served S c short) new f

    abbrev alone : (ℕ → Slot) → SiteModel
    alone s = with_row S (record { count = S.row.count; room = S.row.room; reach = S.row.reach; slot = λ d g. s d })

    own : ◌≡◌ {A = ℕ → Slot} (λ d. now_row.slot d f) (λ d. S.row.slot d f)
    own = λ i d. kept_by_later S.row c (served S c short) new f d f (le-ltb f f (omega arith)) i

    served_still : served (with_row S now_row) c short f ≡ served S c short f
    served_still = ap (λ s. served (alone s) c short f) own

    rebuilt_still : rebuilt_record (with_row S now_row) f c ≡ rebuilt_record S f c
    rebuilt_still = ap (λ s. rebuilt_record (alone s) f c) own

    pub refilling_next : (written next : ℕ) (now last : SiteModel) (b : Bool) → f < 16 → Refilling f written now → b ≡ served now c short f →
        last ≡ with_row now (cond b (with_slot now.row c f (Held (rebuilt_record now f c))) now.row) → (f < 16 → written < 2 ^ f → next ≡ written + cond b (2 ^ f) 0) → Refilling (f + 1) next last
    refilling_next written next now last b few r eb el en =
        let is : b ≡ served S c short f = eb ∙ ap (λ T. served T c short f) r.site ∙ served_still in
        record {
          set = set_next (served S c short) f written next b few r.set is en;
          site = el ∙ ap (λ T. with_row T (cond b (with_slot T.row c f (Held (rebuilt_record T f c))) T.row)) r.site
              ∙ ap (λ bs. with_row S (cond b (with_slot now_row c f (Held bs)) now_row)) rebuilt_still ∙ ap (with_row S) (upto_more S.row c (served S c short) new f b is);
        }

-- With short memory nothing is written.
module _ (S : SiteModel) (c : ℕ) where
  none-served : (f : ℕ) → served S c true f ≡ false
  none-served f = let before = (kept S f).current && ltb c (fitted S) && lacking S f c && not (too_few S f) in
      and_left (before && false) (is_ok (rebuilding S f c)) (and_right before false refl)

  none_of : (test : ℕ → Bool) → ((f : ℕ) → test f ≡ false) → (n : ℕ) → 0 ≡ set_of test n
  unfolding set_of
  none_of test h zero = refl
  none_of test h (suc n) = omega (arith, none_of test h n, ap (λ b. cond b (2 ^ n) 0) (h n))

  pub short_set : 0 ≡ set_of (served S c true) 8
  short_set = none_of (served S c true) none-served 8

  pub short_site : S ≡ with_row S (refilled_row S c true)
  short_site = ap (with_row S) (same_model S.row (refilled_row S c true) refl refl (λ d. refl)
      (λ d g. sym (ap (λ b. cond b (Held (rebuilt_record S g c)) (S.row.slot d g)) (and_right (eqb d c && ltb g 8) (served S c true g) (none-served g)))))

-- One file, whose record the cabinet takes.
module _ (S : SiteModel) (c f : ℕ) (last : Kept) (here : of_current S f (Ok (kept S f)) ≡ Ok last) (head : Head) (eh : head ≡ due S f)
    (can : (ltb c (fitted S) && lacks S.row head f c) ≡ true) where
  takes : (ltb c (fitted S) ≡ true) × (lacks S.row head f c ≡ true)
  takes = and_parts (ltb c (fitted S)) (lacks S.row head f c) can

  served_is : too_few S f ≡ false → served S c false f ≡ is_ok (rebuilding S f c)
  served_is more = ap (λ b. b && is_ok (rebuilding S f c))
      (and_from _ true
      (and_from _ (not (too_few S f)) (and_from _ (lacking S f c) (and_from (kept S f).current (ltb c (fitted S)) (not-false (kept S f).current (is_current_now S f last here)) takes.0)
      (ap (λ h. lacks S.row h f c) (sym eh) ∙ takes.1)) (not_from_false (too_few S f) more)) refl)

  module _ (sound : Sound S.row) (spread : List ℕ) (long : length spread ≡ 6400) (w : ℕ) (ew : w ≡ head.whole) where
    pub spread_end : w ≤ length spread
    spread_end = omega (arith, (lacks_told S.row head f c takes.1).fits, sound.small, long, ew)

    module _ (more : too_few S f ≡ false) (bytes : ℕ) (ps rs : List ℕ) (eb : bytes ≡ package_bytes S f) (ep : ps ≡ positions S f) (er : rs ≡ records S f)
        (r : Result Unit SiteCause) (b : Bool) (is : b ≡ is_ok r) where
      pub refill_told : r ≡ pass Slice (rebuild_answer (code S) (fitted S) bytes ps rs c (length (take (w - 0) spread))) (λ _. Ok tt) → b ≡ served S c false f
      refill_told e =
          let long_2 : length (take (w - 0) spread) ≡ whole S f = omega (arith, length-take (w - 0) spread, spread_end, ew, ap (λ h. h.whole) eh) in
          is ∙ ap is_ok
          (e ∙ ap (λ n. pass Slice (rebuild_answer (code S) (fitted S) bytes ps rs c n) (λ _. Ok tt)) long_2
          ∙ ap (λ n. pass Slice (rebuild_answer (code S) (fitted S) n ps rs c (whole S f)) (λ _. Ok tt)) eb
          ∙ ap (λ p. pass Slice (rebuild_answer (code S) (fitted S) (package_bytes S f) p rs c (whole S f)) (λ _. Ok tt)) ep
          ∙ ap (λ q. pass Slice (rebuild_answer (code S) (fitted S) (package_bytes S f) (positions S f) q c (whole S f)) (λ _. Ok tt)) er)
          ∙ same (rebuild_answer (code S) (fitted S) (package_bytes S f) (positions S f) (records S f) c (whole S f)) ∙ sym (served_is more)
        where
          same : (a : Result ℕ SliceFault) → is_ok (pass {U = Unit} Slice a (λ _. Ok tt)) ≡ is_ok (pass {U = ℕ} Slice a Ok)
          same (Ok x) = refl
          same (Err e) = refl

      pub refill_left : (row : RowModel) → row ≡ leaves r S.row (with_slot S.row c f (Held (rebuilt (code S) bytes ps rs c))) →
          with_row S row ≡ with_row S (cond b (with_slot S.row c f (Held (rebuilt_record S f c))) S.row)
      refill_left row e = ap (with_row S)
          (e ∙ by S.row (with_slot S.row c f (Held (rebuilt (code S) bytes ps rs c))) r ∙ ap (λ t. cond t (with_slot S.row c f (Held (rebuilt (code S) bytes ps rs c))) S.row) (sym is)
          ∙ ap (λ n. cond b (with_slot S.row c f (Held (rebuilt (code S) n ps rs c))) S.row) eb
          ∙ ap (λ p. cond b (with_slot S.row c f (Held (rebuilt (code S) (package_bytes S f) p rs c))) S.row) ep
          ∙ ap (λ q. cond b (with_slot S.row c f (Held (rebuilt (code S) (package_bytes S f) (positions S f) q c))) S.row) er)
        where
          by : (old new : RowModel) (a : Result Unit SiteCause) → leaves a old new ≡ cond (is_ok a) new old
          by old new (Ok x) = refl
          by old new (Err e) = refl

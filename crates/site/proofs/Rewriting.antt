-- A round that gives each cabinet that lacks it a record: what it has changed so far, and how many it has counted. Assumes nothing.
use Rattle.std.proofs.Common.{◌≡◌, ℕ, zero, suc, ◌+◌, ◌-◌, ◌<◌, ◌≤◌, Bool, true, false, cond, not, ◌&&◌, eqb, ltb, leb, List, [], ◌∷◌, ◌++◌, length, take, Some, None, Ok, Err, Result, sym, refl, ap, ◌∙◌, inl, inr, ⊎_elim, add-one, arith}
use Rattle.std.proofs.lemmas.List.{append_assoc, append-nil, length_push, length-take}
use Rattle.std.proofs.lemmas.Bool.{cases_Bool, cases_eq, cases_lt, and_parts, and_right, eq-eqb, leb-true, le-ltb, lt-ltb, ne_eqb}
use Rattle.base.specs.Answers.{leaves, pass}
use Rattle.erasure.specs.declared.fault.SliceFault.{SliceFault}
use Rattle.erasure.specs.declared.head.Head.{Head}
use Rattle.erasure.specs.Records.{Coding}
use Rattle.recovery.specs.Answers.{rebuild_answer}
use Rattle.recovery.specs.Formula.{rebuilt}
use Rattle.rows.specs.Model.{RowModel, Slot, Sound, Held, with_slot}
use Rattle.rows.proofs.Laws.{same_model}
use Rattle.standing.specs.declared.cause.Cause.TheVariants.{Away}
use Rattle.standing.specs.Sets.{members}
use Rattle.standing.specs.Standing.{same_cause, slot_cause, stands}
use Rattle.standing.proofs.Members.{count_at_most, members_more}
use Rattle.site.specs.declared.fault.SiteCause.{SiteCause}
use Rattle.site.specs.declared.fault.SiteCause.TheVariants.{Slice}
use Rattle.site.specs.Model.{with_slots}
use Rattle.site.specs.Steps.{lacks, rebuild_for, rewrites}
use Rattle.site.proofs.Rebuilding.{alike}
use Rattle.site.proofs.Rounds.{same_below}

-- a number that passes makes the list longer by itself, and one that does not leaves it
module _ (test : ℕ → Bool) (c : ℕ) where
  pub one_more : test c ≡ true → members test (c + 1) ≡ members test c ++ c ∷ []
  one_more t = members_more test c ∙ ap (λ b. members test c ++ cond b (c ∷ []) []) t

  pub no_more : test c ≡ false → members test (c + 1) ≡ members test c
  no_more t = members_more test c ∙ ap (λ b. members test c ++ cond b (c ∷ []) []) t ∙ append-nil (members test c)

-- the first of them stand at the front of all
front : (test : ℕ → Bool) (c n : ℕ) → c ≤ n → (rest : List ℕ) × (members test n ≡ members test c ++ rest)
front test c zero h = let e : zero ≡ c = omega arith in ([], ap (members test) e ∙ sym (append-nil (members test c)))
front test c (suc n) h = ⊎_elim
    (λ l. let e : suc n ≡ c = omega arith in ([], ap (members test) e ∙ sym (append-nil (members test c))))
    (λ l.
    let p = front test c n l in
    let one : List ℕ = cond (test n) (n ∷ []) [] in
    (p.0 ++ one, ap (members test) (sym (add-one n)) ∙ members_more test n ∙ ap (λ xs. xs ++ one) p.1 ∙ append_assoc (members test c) p.0 one))
    (cases_lt n c)

-- The row with the slots of the first c cabinets that pass a test changed.
module _ (m : RowModel) (f : ℕ) (test : ℕ → Bool) (new : ℕ → Slot) where
  abbrev pub filled : ℕ → RowModel
  filled c = with_slots m (λ d. ltb d c && test d) f new

  pub filled_none : m ≡ filled 0
  filled_none = same_model m (filled 0) refl refl (λ d. refl) (λ d g. let t : ltb d 0 ≡ false = le-ltb d 0 (omega arith) in rw t)

  -- what it has for a cabinet that is still to come
  pub not_yet : (c g : ℕ) → (filled c).slot c g ≡ m.slot c g
  not_yet c g = let t : ltb c c ≡ false = le-ltb c c (omega arith) in rw t

  pub filled_next : (c : ℕ) → test c ≡ true → with_slot (filled c) c f (new c) ≡ filled (c + 1)
  filled_next c passes = same_model (with_slot (filled c) c f (new c)) (filled (c + 1)) refl refl (λ d. refl) (λ d g. slot d g)
    where
      slot : (d g : ℕ) → (with_slot (filled c) c f (new c)).slot d g ≡ (filled (c + 1)).slot d g
      slot d g = ⊎_elim
          (λ e.
          let t : eqb d c ≡ true = eq-eqb d c e in
          let u : ltb d (c + 1) ≡ true = lt-ltb d (c + 1) (omega arith) in
          let w : ltb d c ≡ false = le-ltb d c (omega arith) in
          let v : test d ≡ true = ap test e ∙ passes in
          rw (t, u, w, v) (ap (λ x. cond (eqb g f) (new x) (m.slot d g)) (sym e)))
          (λ ne. let t : eqb d c ≡ false = ne_eqb d c ne in rw (t, same_below d c ne))
          (cases_eq d c)

  pub filled_past : (c : ℕ) → test c ≡ false → filled c ≡ filled (c + 1)
  filled_past c fails = same_model (filled c) (filled (c + 1)) refl refl (λ d. refl) (λ d g. ap (λ b. cond (b && eqb g f) (new d) (m.slot d g)) (both d))
    where
      both : (d : ℕ) → (ltb d c && test d) ≡ (ltb d (c + 1) && test d)
      both d = ⊎_elim
          (λ e. let w : test d ≡ false = ap test e ∙ fails in and_right (ltb d c) (test d) w ∙ sym (and_right (ltb d (c + 1)) (test d) w))
          (λ ne. ap (λ b. b && test d) (sym (same_below d c ne)))
          (cases_eq d c)

  -- nothing is changed where none passes
  filled_for_none : (c : ℕ) → members test c ≡ [] → m ≡ filled c
  filled_for_none zero h = filled_none
  filled_for_none (suc c) h = elim (cases_Bool (test c)) [
    | inl t ↦ let z : members test c ++ c ∷ [] ≡ [] = sym (one_more test c t) ∙ ap (members test) (add-one c) ∙ h in absurd (omega (arith, ap length z, length_push (members test c) c))
    | inr t ↦ filled_for_none c (sym (no_more test c t) ∙ ap (members test) (add-one c) ∙ h) ∙ filled_past c t ∙ ap filled (add-one c)
  ]

-- what it tells that a cabinet lacks a record
pub record Lacks (m : RowModel) (due : Head) (f c : ℕ) : Type 0 where
  pub near : m.reach c ≡ true
  pub fits : due.whole ≤ m.room

pub lacks_told : (m : RowModel) (due : Head) (f c : ℕ) → lacks m due f c ≡ true → Lacks m due f c
lacks_told m due f c h =
    let p = and_parts (m.reach c && not (stands m due f c)) (leb due.whole m.room) h in
    record { near = (and_parts (m.reach c) (not (stands m due f c)) p.0).0; fits = leb-true due.whole m.room p.1 }

-- cabinet c lacks a record now, if it did before the round
pub lacks_still : (m : RowModel) (f : ℕ) (test : ℕ → Bool) (new : ℕ → Slot) (due : Head) (c : ℕ) → lacks (filled m f test new c) due f c ≡ lacks m due f c
lacks_still m f test new due c =
    ap (λ s. m.reach c && not (same_cause (cond (m.reach c) (slot_cause due s) (Some Away)) None) && leb due.whole m.room) (not_yet m f test new c f)

module _ (answer : ℕ → Result ℕ SiteCause) where
  taken : (r : Result ℕ SiteCause) (k count : ℕ) → pass (λ why. why) r (λ _. Ok k) ≡ Ok count → ((x : ℕ) × (r ≡ Ok x)) × (k ≡ count)
  taken (Ok x) k count h = ((x, refl), cc)
  taken (Err e) k count h = let z : ◌≡◌ {A = ℕ} 0 1 = cc in absurd (omega arith)

  counted : (xs : List ℕ) (count : ℕ) → rewrites answer xs ≡ Ok count → count ≡ length xs
  counted [] count h = cc
  counted (b ∷ bs) count h = sym (taken (answer b) (length (b ∷ bs)) count h).1

  counted_more : (xs : List ℕ) (c count x : ℕ) → rewrites answer xs ≡ Ok count → answer c ≡ Ok x → rewrites answer (xs ++ c ∷ []) ≡ Ok (count + 1)
  counted_more [] c count x h e = ap (λ r. pass (λ why. why) r (λ _. Ok 1)) e ∙ ap (λ n. Ok (n + 1)) (sym (counted [] count h))
  counted_more (b ∷ bs) c count x h e =
      let t = taken (answer b) (length (b ∷ bs)) count h in
      let all = b ∷ (bs ++ c ∷ []) in
      ap (λ r. pass (λ why. why) r (λ _. Ok (length all))) t.0.1 ∙ ap Ok (length_push (b ∷ bs) c ∙ ap (λ n. n + 1) t.1)

  module _ (test : ℕ → Bool) where
    -- how far a round has come: the row, and what is counted
    pub record Rewriting (m : RowModel) (f : ℕ) (new : ℕ → Slot) (c count : ℕ) (now : RowModel) : Type 0 where
      pub row : now ≡ filled m f test new c
      pub counts : rewrites answer (members test c) ≡ Ok count

    module _ (m : RowModel) (f : ℕ) (new : ℕ → Slot) where
      none : Rewriting m f new 0 0 m
      none = record { row = filled_none m f test new; counts = refl }

      most : (c count : ℕ) (now : RowModel) → Rewriting m f new c count now → count ≤ c
      most c count now r = omega (arith, counted (members test c) count r.counts, count_at_most test c)

      past : (c count : ℕ) (now : RowModel) → test c ≡ false → Rewriting m f new c count now → Rewriting m f new (c + 1) count now
      past c count now t r = record { row = r.row ∙ filled_past m f test new c t; counts = ap (rewrites answer) (no_more test c t) ∙ r.counts }

      next : (c count x : ℕ) (now last : RowModel) → test c ≡ true → answer c ≡ Ok x → last ≡ with_slot now c f (new c) → Rewriting m f new c count now → Rewriting m f new (c + 1) (count + 1) last
      next c count x now last t ok el r = record {
        row = el ∙ ap (λ z. with_slot z c f (new c)) r.row ∙ filled_next m f test new c t;
        counts = ap (rewrites answer) (one_more test c t) ∙ counted_more (members test c) c count x r.counts ok;
      }

    -- where all can be rebuilt or none, a refusal comes at the first that passes
    module _ (n : ℕ) (all : (b c x : ℕ) → c < n → answer b ≡ Ok x → answer c ≡ Ok x) where
      refused_first : (xs : List ℕ) (c count : ℕ) (e : SiteCause) → c < n → rewrites answer xs ≡ Ok count → answer c ≡ Err e → xs ≡ []
      refused_first [] c count e l h r = refl
      refused_first (b ∷ bs) c count e l h r =
          let t = taken (answer b) (length (b ∷ bs)) count h in
          let both : Ok t.0.0 ≡ Err e = sym (all b c t.0.0 l t.0.1) ∙ r in
          let z : ◌≡◌ {A = ℕ} 0 1 = cc in absurd (omega arith)

      refused_all : (c : ℕ) (e : SiteCause) → c < n → test c ≡ true → members test c ≡ [] → answer c ≡ Err e → rewrites answer (members test n) ≡ Err e
      refused_all c e l t free r =
          let p = front test (c + 1) n (omega arith) in
          ap (rewrites answer) (p.1 ∙ ap (λ xs. xs ++ p.0) (one_more test c t ∙ ap (λ xs. xs ++ c ∷ []) free)) ∙ ap (λ a. pass (λ why. why) a (λ _. Ok (length (c ∷ p.0)))) r

      refused : (m : RowModel) (f : ℕ) (new : ℕ → Slot) (c count : ℕ) (now : RowModel) (e : SiteCause) → c < n → test c ≡ true → answer c ≡ Err e → Rewriting m f new c count now →
          (now ≡ m) × (rewrites answer (members test n) ≡ Err e)
      refused m f new c count now e l t why r =
          let free : members test c ≡ [] = refused_first (members test c) c count e l r.counts why in
          (r.row ∙ sym (filled_for_none m f test new c free), refused_all c e l t free why)

-- The round of a repair, by what the calls in it answer.
module _ (C : Coding) (n bytes : ℕ) (ps rs : List ℕ) (due : Head) (f : ℕ) (m : RowModel) where
  abbrev pub Round : (c count : ℕ) → RowModel → Type 0
  Round c count now = Rewriting (rebuild_for C n bytes ps rs due.whole) (lacks m due f) m f (λ d. Held (rebuilt C bytes ps rs d)) c count now

  abbrev new : ℕ → Slot
  new d = Held (rebuilt C bytes ps rs d)

  -- what it answers and leaves in the end
  pub record Done (result : Result ℕ SiteCause) (last : RowModel) : Type 0 where
    pub answers : result ≡ rewrites (rebuild_for C n bytes ps rs due.whole) (members (lacks m due f) n)
    pub becomes : last ≡ leaves result m (filled m f (lacks m due f) new n)

  pub round_none : Round 0 0 m
  round_none = none (rebuild_for C n bytes ps rs due.whole) (lacks m due f) m f new

  pub round-most : (c count : ℕ) (now : RowModel) → Round c count now → count ≤ c
  round-most c count now r = most (rebuild_for C n bytes ps rs due.whole) (lacks m due f) m f new c count now r

  pub round_done : (c count : ℕ) (now : RowModel) → Round c count now → c ≡ n → Done (Ok count) now
  round_done c count now r e = record {
    answers = sym (ap (λ k. rewrites (rebuild_for C n bytes ps rs due.whole) (members (lacks m due f) k)) (sym e) ∙ r.counts);
    becomes = r.row ∙ ap (filled m f (lacks m due f) new) e;
  }

  module _ (c count : ℕ) (now : RowModel) (r : Round c count now) (b : Bool) (eb : b ≡ lacks now due f c) where
    same : b ≡ lacks m due f c
    same = eb ∙ ap (λ z. lacks z due f c) r.row ∙ lacks_still m f (lacks m due f) new due c

    pub round_past : b ≡ false → Round (c + 1) count now
    round_past t = past (rebuild_for C n bytes ps rs due.whole) (lacks m due f) m f new c count now (sym same ∙ t) r

    module _ (sound : Sound now) (spread : List ℕ) (long : 6400 ≤ length spread) (w : ℕ) (ew : w ≡ due.whole) (t : b ≡ true) where
      told : Lacks now due f c
      told = lacks_told now due f c (sym eb ∙ t)

      part : length (take (w - 0) spread) ≡ due.whole
      part = omega (arith, length-take (w - 0) spread, told.fits, sound.small)

      module _ (last : RowModel) (answer : Result Unit SiteCause) (ea : answer ≡ pass Slice (rebuild_answer C n bytes ps rs c (length (take (w - 0) spread))) (λ _. Ok tt))
          (el : last ≡ leaves answer now (with_slot now c f (new c))) where
        given : answer ≡ pass (λ why. why) (rebuild_for C n bytes ps rs due.whole c) (λ _. Ok tt)
        given = ea ∙ ap (λ k. pass Slice (rebuild_answer C n bytes ps rs c k) (λ _. Ok tt)) part ∙ sliced (rebuild_answer C n bytes ps rs c due.whole)
          where
            sliced : (a : Result ℕ SliceFault) → pass {U = Unit} Slice a (λ _. Ok tt) ≡ pass (λ why. why) (pass Slice a Ok) (λ _. Ok tt)
            sliced (Ok x) = refl
            sliced (Err e) = refl

        pub round_next : answer ≡ Ok tt → Round (c + 1) (count + 1) last
        round_next ok =
            let x = accepted (rebuild_for C n bytes ps rs due.whole c) (sym given ∙ ok) in
            next (rebuild_for C n bytes ps rs due.whole) (lacks m due f) m f new c count x.0 now last (sym same ∙ t) x.1 (el ∙ ap (λ a. leaves a now (with_slot now c f (new c))) ok) r
          where
            accepted : (a : Result ℕ SiteCause) → pass {U = Unit} (λ why. why) a (λ _. Ok tt) ≡ Ok tt → (x : ℕ) × (a ≡ Ok x)
            accepted (Ok x) h = (x, refl)
            accepted (Err e) h = let z : ◌≡◌ {A = ℕ} 0 1 = cc in absurd (omega arith)

        pub round-refused : (e : SiteCause) (result : Result ℕ SiteCause) → c < n → answer ≡ Err e → result ≡ Err e → Done result last
        round-refused e result l why told =
            let p = refused (rebuild_for C n bytes ps rs due.whole) (lacks m due f) n (alike C n bytes ps rs due.whole) m f new c count now e l (sym same ∙ t)
            (stopped (rebuild_for C n bytes ps rs due.whole c) (sym given ∙ why)) r in
            record {
              answers = told ∙ sym p.1;
              becomes = el ∙ ap (λ a. leaves a now (with_slot now c f (new c))) why ∙ p.0 ∙ ap (λ a. leaves a m (filled m f (lacks m due f) new n)) (sym told);
            }
          where
            stopped : (a : Result ℕ SiteCause) → pass {U = Unit} (λ why. why) a (λ _. Ok tt) ≡ Err e → a ≡ Err e
            stopped (Ok x) h = let z : ◌≡◌ {A = ℕ} 0 1 = cc in absurd (omega arith)
            stopped (Err d) h = cc

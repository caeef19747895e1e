-- What holds of the cabinets that stand for a file and of those that do not: for the layers above. Assumes nothing.
use Rattle.std.proofs.Common.{◌≡◌, ℕ, zero, suc, ◌+◌, ◌^◌, ◌<◌, ◌≤◌, min, Bool, true, false, cond, ◌&&◌, List, ◌∷◌, length, get_or, Some, None, filter, Option, sym, refl, ap, ◌∙◌, inl, inr, ⊎_elim, pow-suc, arith}
use Rattle.std.specs.List.{range_with_len, AllByRecursion}
use Rattle.std.proofs.ByRecursion.{All-get_or, all_kept_by, All-take, kept_by_passes}
use Rattle.std.proofs.lemmas.List.{get_or-take, length-take}
use Rattle.std.proofs.lemmas.Bool.{cases_Bool, cases_lt, cond_both, eqb-true, true≢false}
use Rattle.erasure.specs.declared.head.Head.{Head}
use Rattle.rows.specs.Model.{RowModel, Slot, Sound, Empty, Condemned, Held, held}
use Rattle.standing.specs.declared.cause.Cause.{Cause}
use Rattle.standing.specs.declared.cause.Cause.TheVariants as cause
use Rattle.standing.specs.Gather.{Holds}
use Rattle.standing.specs.Sets.{count_of, lowest, members, set_of, survey_of}
use Rattle.standing.specs.Standing.{cause_of, is_due, same_cause, slot_cause, stands}

-- a cabinet in reach is one of the row's
pub reached_there : (m : RowModel) → Sound m → (c : ℕ) → m.reach c ≡ true → c < m.count
reached_there m S c near = ⊎_elim (λ l. l) (λ l. absurd (true≢false (sym near ∙ S.no_reach c l))) (cases_lt c m.count)

-- What standing tells.
pub record Stands (m : RowModel) (due : Head) (f c : ℕ) : Type 0 where
  pub near : m.reach c ≡ true
  pub full : m.slot c f ≡ Held (held (m.slot c f))
  pub same : is_due due (held (m.slot c f)) ≡ true
  pub long : length (held (m.slot c f)) ≡ due.whole

first : (a b c d : Bool) → (a && b && c && d) ≡ true → a ≡ true
first true b c d h = refl
first false b c d h = h

module _ (due : Head) where
  told : (b : Bool) (s : Slot) → same_cause (cond b (slot_cause due s) (Some cause.Away)) None ≡ true → (b ≡ true) × (s ≡ Held (held s)) × (is_due due (held s) ≡ true)
  told false s h = absurd (true≢false (sym h))
  told true Empty h = absurd (true≢false (sym h))
  told true Condemned h = absurd (true≢false (sym h))
  told true (Held bs) h = elim (cases_Bool (is_due due bs)) [
    | inl t ↦ (refl, refl, t)
    | inr t ↦ absurd (true≢false (sym h ∙ ap (λ b. same_cause (cond b None (Some cause.Old)) None) t))
  ]

  module _ (m : RowModel) (f c : ℕ) where
    pub stands_told : stands m due f c ≡ true → Stands m due f c
    stands_told h =
        let p = told (m.reach c) (m.slot c f) h in
        record { near = p.0; full = p.1; same = p.2; long = eqb-true _ _ (first _ _ _ _ p.2) }

    pub stands_so : (bs : List ℕ) → m.reach c ≡ true → m.slot c f ≡ Held bs → is_due due bs ≡ true → stands m due f c ≡ true
    stands_so bs near full same =
        ap (λ b. same_cause (cond b (slot_cause due (m.slot c f)) (Some cause.Away)) None) near
        ∙ ap (λ s. same_cause (slot_cause due s) None) full ∙ ap (λ b. same_cause (cond b None (Some cause.Old)) None) same

    -- its record can be gathered
    pub stands-holds : stands m due f c ≡ true → Holds m f due.whole c
    stands-holds h = let s = stands_told h in (s.near, s.long)

-- A cabinet stands or has one of the four causes, and no two of these: of five numbers, one for each, that are x there and
-- 0 else, the sum is x.
pub one_cause : (why : Option Cause) (x : ℕ) →
    cond (same_cause why None) x 0 + cond (same_cause why (Some cause.Away)) x 0 + cond (same_cause why (Some cause.Condemned)) x 0
    + cond (same_cause why (Some cause.Empty)) x 0 + cond (same_cause why (Some cause.Old)) x 0
    ≡ x
one_cause None x = omega arith
one_cause (Some cause.Away) x = omega arith
one_cause (Some cause.Condemned) x = omega arith
one_cause (Some cause.Empty) x = omega arith
one_cause (Some cause.Old) x = omega arith

-- the five sets of a survey together have each cabinet below n once
pub survey_whole : (m : RowModel) (due : Head) (f n : ℕ) → let s = survey_of m due f n in
    s.standing + s.absent.away + s.absent.condemned + s.absent.empty + s.absent.old + 1 ≡ 2 ^ n
unfolding set_of
survey_whole m due f zero = omega arith
survey_whole m due f (suc n) = rw pow-suc (omega (arith, survey_whole m due f n, one_cause (cause_of m due f n) (2 ^ n)))

-- The lowest numbers below n that pass a test.
abbrev Rising : List ℕ → Type 0
Rising xs = (i j : ℕ) → i < j → j < length xs → get_or xs i 0 < get_or xs j 0

rising_cons : (a : ℕ) (xs : List ℕ) → AllByRecursion (λ c. a < c) xs → Rising xs → Rising (a ∷ xs)
rising_cons a xs h r i zero l k = absurd (omega arith)
rising_cons a xs h r zero (suc j) l k = All-get_or (λ c. a < c) xs j 0 (omega arith) h
rising_cons a xs h r (suc i) (suc j) l k = r i j (omega arith) (omega arith)

counting_from : (a n b : ℕ) → b < a → AllByRecursion (λ c. b < c) (range_with_len a n)
counting_from a zero b h = tt
counting_from a (suc n) b h = (h, counting_from (a + 1) n b (omega arith))

counting_below : (a n b : ℕ) → a + n ≤ b → AllByRecursion (λ c. c < b) (range_with_len a n)
counting_below a zero b h = tt
counting_below a (suc n) b h = (omega arith, counting_below (a + 1) n b (omega arith))

module _ (test : ℕ → Bool) where
  members_rise : (a n : ℕ) → Rising (filter test (range_with_len a n))
  members_rise a zero = λ i j l k. absurd (omega arith)
  members_rise a (suc n) =
      let rest = filter test (range_with_len (a + 1) n) in
      let on : Rising rest = members_rise (a + 1) n in
      cond_both (test a) (a ∷ rest) rest Rising
      (λ _. rising_cons a rest (all_kept_by test (λ c. a < c) (range_with_len (a + 1) n) (counting_from (a + 1) n a (omega arith))) on) (λ _. on)

  module _ (k n : ℕ) where
    pub lowest-passes : AllByRecursion (λ c. test c ≡ true) (lowest k test n)
    lowest-passes = All-take (λ c. test c ≡ true) k (members test n) (kept_by_passes test (range_with_len 0 n))

    pub lowest-below : AllByRecursion (λ c. c < n) (lowest k test n)
    lowest-below = All-take (λ c. c < n) k (members test n) (all_kept_by test (λ c. c < n) (range_with_len 0 n) (counting_below 0 n n (omega arith)))

    pub lowest_rises : (i j : ℕ) → i < j → j < length (lowest k test n) → get_or (lowest k test n) i 0 < get_or (lowest k test n) j 0
    lowest_rises i j l h =
        let within : j < min k (count_of test n) = omega (arith, length-take k (members test n)) in
        omega (
          arith,
          members_rise 0 n i j l (omega arith),
          get_or-take k (members test n) i 0 (omega arith),
          get_or-take k (members test n) j 0 (omega arith),
        )

    pub length-lowest : length (lowest k test n) ≡ min k (count_of test n)
    length-lowest = length-take k (members test n)

-- The records that a file is restored from: how many, and how long. Assumes nothing.
use Rattle.std.proofs.Common.{◌≡◌, ℕ, ◌*◌, ◌≤◌, min, true, false, List, length, get_or, Ok, sym, ap, ◌∙◌, subst, inl, inr, mul-zero, arith}
use Rattle.std.specs.List.{flat_map, AllByRecursion}
use Rattle.std.proofs.ByRecursion.{All-get_or, All-weaker}
use Rattle.std.proofs.lemmas.Bool.{cases_Bool, cond_both, le-ltb, ltb-false}
use Rattle.base.specs.Bytes.{over}
use Rattle.base.specs.Sizes.{misfit}
use Rattle.base.proofs.Lengths.{fits}
use Rattle.base.proofs.Refusing.{passes}
use Rattle.algebra.specs.Fields.{Widths}
use Rattle.erasure.specs.declared.head.Head.{Head}
use Rattle.erasure.specs.Records.{record_length}
use Rattle.erasure.proofs.Reading.{records_fit_memory}
use Rattle.rows.specs.Model.{Sound, held}
use Rattle.standing.specs.Gather.{Holds}
use Rattle.standing.specs.Sets.{absent_of, count_of, lowest}
use Rattle.standing.specs.Standing.{stands}
use Rattle.standing.proofs.Laws.{length-lowest, lowest-passes, stands-holds, stands_told}
use Rattle.standing.proofs.EndToEnd as joined
use Rattle.site.specs.declared.fault.SiteCause.TheVariants.{TooFew}
use Rattle.site.specs.declared.files.Kept.{Kept}
use Rattle.site.specs.Model.{SiteModel, code, due, due_for, fitted, kept, needed, package_bytes, positions, records, standing, too_few, whole}
use Rattle.site.specs.Steps.{enough}

-- each of the cabinets holds a record of the due length
pub positions_hold : (S : SiteModel) (f : ℕ) → AllByRecursion (Holds S.row f (whole S f)) (positions S f)
positions_hold S f =
    All-weaker (λ c. standing S f c ≡ true) (Holds S.row f (whole S f)) (λ c h. stands-holds (due S f) S.row f c h) (positions S f)
    (lowest-passes (standing S f) (needed S) (fitted S))

module _ (S : SiteModel) (sound : Sound S.row) (most : fitted S ≤ 16) (f : ℕ) (many : too_few S f ≡ false) where
  pub length-positions : length (positions S f) ≡ needed S
  length-positions = omega (
    arith,
    length-lowest (standing S f) (needed S) (fitted S),
    ltb-false (count_of (standing S f) (fitted S)) (needed S) many,
  )

  pub length-records : length (records S f) ≡ needed S * whole S f
  length-records = joined.length-records S.row sound f (whole S f) (positions S f) (positions_hold S f) ∙ ap (λ n. n * whole S f) length-positions

  -- a record that is held has a byte, so a package has the file's length
  pub package-fits : 1 ≤ needed S → misfit (package_bytes S f) ≡ false
  package-fits least = elim (cases_Bool (misfit (package_bytes S f))) [
    | inl t ↦
        let c = get_or (positions S f) 0 0 in
        let here = stands_told (due S f) S.row f c
        (All-get_or (λ d. standing S f d ≡ true) (positions S f) 0 0 (omega (arith, length-positions)) (lowest-passes (standing S f) (needed S) (fitted S))) in
        let none : whole S f ≡ 0 = rw t in
        absurd (omega (arith, sound.some c f (held (S.row.slot c f)) here.full, here.long, none))
    | inr t ↦ t
  ]

-- k records fit working memory
pub records-bound : (S : SiteModel) (f : ℕ) → Widths (code S).ops (code S).width (code S).stored (code S).number → 1 ≤ needed S → needed S ≤ 16 → needed S * whole S f ≤ 6400
records-bound S f W least most =
    let k = needed S in
    cond_both (misfit (package_bytes S f)) 0 (record_length (code S) (package_bytes S f)) (λ n. k * n ≤ 6400)
    (λ _. omega (arith, mul-zero k))
    (λ t. records_fit_memory (code S).ops (code S).width (code S).stored (code S).number W k (package_bytes S f) least most (fits (package_bytes S f) t).2)

-- What the code finds where enough stand, by its own names of the numbers.
module _ (S : SiteModel) (most : fitted S ≤ 16) (f k n : ℕ) (state : Kept) (head : Head) (places : List ℕ) (same : state ≡ kept S f) (ek : k ≡ needed S) (en : n ≡ fitted S) (eh : head ≡ due_for S.fit state)
    (ep : places ≡ lowest k (stands S.row head f) (min n 16)) (le : k ≤ length places) where
  head_is : head ≡ due S f
  head_is = eh ∙ ap (due_for S.fit) same

  places_are : places ≡ positions S f
  places_are =
      let all : min n 16 ≡ fitted S = omega (arith, most, en) in
      ep ∙ ap (λ m. lowest k (stands S.row head f) m) all ∙ ap (λ h. lowest k (stands S.row h f) (fitted S)) head_is ∙ ap (λ m. lowest m (standing S f) (fitted S)) ek

  count : length (positions S f) ≡ needed S
  count = omega (arith, length-lowest (standing S f) (needed S) (fitted S), ap length places_are, ek, le)

  enough_found : Ok 0 ≡ enough S f
  enough_found =
      sym (passes (too_few S f) (TooFew (absent_of S.row (due S f) f (fitted S))) (Ok 0)
      (le-ltb (count_of (standing S f) (fitted S)) (needed S) (omega (arith, length-lowest (standing S f) (needed S) (fitted S), count))))

  -- and what it then gathers
  pub collected : (was now : List ℕ) (stride : ℕ) → stride ≡ head.whole → needed S * whole S f ≤ 6400 → 6400 ≤ length was →
      (AllByRecursion (Holds S.row f stride) places → length places * stride ≤ length was → now ≡ over (flat_map (λ c. held (S.row.slot c f)) places) was) →
      (Ok 0 ≡ enough S f) × (places ≡ positions S f) × (now ≡ over (records S f) was)
  collected was now stride es bound room read =
      let wide : stride ≡ whole S f = es ∙ ap (λ h. h.whole) head_is in
      let hold : AllByRecursion (Holds S.row f stride) places = subst (λ m. AllByRecursion (Holds S.row f m) places) (sym wide) (subst (AllByRecursion (Holds S.row f (whole S f))) (sym places_are) (positions_hold S f)) in
      let fit : length places * stride ≤ length was =
      omega (arith, bound, room, ap (λ m. length places * m) wide, ap (λ xs. length xs * whole S f) places_are, ap (λ m. m * whole S f) count) in
      (enough_found, places_are, read hold fit ∙ ap (λ xs. over (flat_map (λ c. held (S.row.slot c f)) xs) was) places_are)

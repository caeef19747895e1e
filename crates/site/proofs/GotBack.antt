-- What was sealed and cut is got, from any k cabinets that have kept its records: for the layers above. Assumes nothing.
use Rattle.std.proofs.Common.{◌≡◌, ℕ, zero, suc, ◌+◌, ◌*◌, ◌<◌, ◌≤◌, true, false, not, ◌&&◌, eqb, ltb, leb, List, [], ◌∷◌, ◌++◌, length, get_or, take, drop, replicate, Ok, sym, refl, ap, ◌∙◌, subst, add-mul, one-mul, add-one, arith}
use Rattle.std.specs.List.{flat_map, AllByRecursion}
use Rattle.std.proofs.ByRecursion.{All-get_or, All-weaker}
use Rattle.std.proofs.lemmas.List.{drop_at, drop-drop, length-replicate, take_at}
use Rattle.std.proofs.lemmas.Bool.{and_from, eq-eqb, le-ltb, lt-leb, lt-ltb, ne_eqb, not_from_false, not_from_true}
use Rattle.base.specs.Answers.{leaves, pass}
use Rattle.base.specs.Bytes.{Bytes, over, part}
use Rattle.base.specs.Sizes.{misfit}
use Rattle.base.specs.Tests.{every}
use Rattle.base.proofs.Every.{every_so}
use Rattle.base.proofs.Refusing.{passes}
use Rattle.algebra.specs.Fields.{Laws, Widths}
use Rattle.algebra.specs.Polynomials.{at}
use Rattle.cipher.specs.Blocks.{Block, CipherLaws}
use Rattle.aont.specs.declared.fault.SealFault.TheVariants.{NoSuchFile}
use Rattle.aont.specs.Package.{package_length, sealed}
use Rattle.aont.specs.Seals.{unseal_answer, unsealed}
use Rattle.aont.proofs.Sealed.{Bytes-sealed, exact, length-sealed, unsealed-sealed}
use Rattle.erasure.specs.Formula.{record_of}
use Rattle.erasure.specs.Records.{IsRecord, record_length}
use Rattle.erasure.proofs.RecordOf.{is_record}
use Rattle.recovery.specs.Answers.{join_answer, positions_fit}
use Rattle.recovery.specs.Formula.{package_from}
use Rattle.recovery.specs.Joins.{AreRecords}
use Rattle.recovery.proofs.Restoring.{join_each}
use Rattle.rows.specs.Model.{Held, Sound, held}
use Rattle.standing.specs.Sets.{absent_of}
use Rattle.standing.proofs.Laws.{lowest-below, lowest_rises}
use Rattle.site.specs.declared.fault.SiteCause.TheVariants.{NoFile, NotCurrent, OutputShort, Seal, Slice, TooFew}
use Rattle.site.specs.Model.{SiteModel, code, due, fitted, kept, needed, package_bytes, positions, records, standing, too_few, whole}
use Rattle.site.specs.Calls.{get_answer, got_file, got_package}
use Rattle.site.specs.Steps.{sized_answer}
use Rattle.site.proofs.Collected.{length-positions, length-records, package-fits, positions_hold}

-- piece i of some of one width, end to end
part_joined : (g : ℕ → List ℕ) (w : ℕ) (xs : List ℕ) → AllByRecursion (λ x. length (g x) ≡ w) xs → (i : ℕ) → i < length xs → part (flat_map g xs) (i * w) w ≡ g (get_or xs i 0)
part_joined g w [] h i l = absurd (omega arith)
part_joined g w (x ∷ xs) h zero l =
    let none : 0 * w ≡ 0 = omega arith in
    ap (λ n. part (g x ++ flat_map g xs) n w) none ∙ take_at (g x) (flat_map g xs) w h.0
part_joined g w (x ∷ xs) h (suc i) l =
    let more : suc i * w ≡ w + i * w = omega (arith, ap (λ n. n * w) (add-one i), add-mul i 1 w, one-mul w) in
    ap (λ n. part (g x ++ flat_map g xs) n w) more ∙ ap (take w) (sym (drop-drop (i * w) w (g x ++ flat_map g xs)) ∙ ap (drop (i * w)) (drop_at (g x) (flat_map g xs) w h.0))
    ∙ part_joined g w xs h.1 i (omega arith)

module _ (S : SiteModel) (sound : Sound S.row) (laws : Laws (code S).ops) (W : Widths (code S).ops (code S).width (code S).stored (code S).number)
    (cipher : CipherLaws S.fit.cipher S.fit.encrypt) (least : 1 ≤ needed S) (within : needed S ≤ fitted S) (most : fitted S ≤ 16)
    (f : ℕ) (many : too_few S f ≡ false) (key file : List ℕ) (issue : ℕ) (block : Block key) (bytes : Bytes file) (short : length file ≤ 4092) (size : (kept S f).size ≡ length file)
    (low : 1 ≤ issue) (high : issue < 65536)
    (keep : AllByRecursion (λ c. S.row.slot c f ≡ Held (record_of (code S) (sealed S.fit.encrypt S.fit.cipher key file) c issue)) (positions S f)) where
  abbrev pkg : List ℕ
  pkg = sealed S.fit.encrypt S.fit.cipher key file

  abbrev wide : ℕ
  wide = record_length (code S) (length pkg)

  length-package : length pkg ≡ package_bytes S f
  length-package = length-sealed S.fit.encrypt S.fit.cipher key file block.0 ∙ ap package_length (sym size)

  fit : misfit (package_bytes S f) ≡ false
  fit = package-fits S sound most f many least

  whole_is : whole S f ≡ wide
  whole_is = rw fit (ap (record_length (code S)) (sym length-package))

  Bytes-package : Bytes pkg
  Bytes-package = Bytes-sealed S.fit.encrypt S.fit.cipher key file block.0 cipher block.1 bytes

  count : length (positions S f) ≡ needed S
  count = length-positions S sound most f many

  below : (i : ℕ) → i < needed S → at (positions S f) i < fitted S
  below i h = All-get_or (λ c. c < fitted S) (positions S f) i 0 (omega (arith, count)) (lowest-below (standing S f) (needed S) (fitted S))

  apart : (i : ℕ) → i < needed S → every i (λ j. not (eqb (at (positions S f) i) (at (positions S f) j))) ≡ true
  apart i hi =
      let ps = positions S f in
      every_so i (λ j. not (eqb (at ps i) (at ps j)))
      (λ j hj.
      let rises : at ps j < at ps i = lowest_rises (standing S f) (needed S) (fitted S) j i hj (omega (arith, count)) in
      not_from_false (eqb (at ps i) (at ps j)) (ne_eqb (at ps i) (at ps j) (λ e. omega (arith, rises, e))))

  places : positions_fit (needed S) (fitted S) (positions S f) ≡ true
  places =
      let ps = positions S f in
      and_from (eqb (length ps) (needed S)) (every (needed S) (λ i. ltb (at ps i) (fitted S) && every i (λ j. not (eqb (at ps i) (at ps j))))) (eq-eqb (length ps) (needed S) count)
      (every_so (needed S) (λ i. ltb (at ps i) (fitted S) && every i (λ j. not (eqb (at ps i) (at ps j))))
      (λ i hi. and_from (ltb (at ps i) (fitted S)) (every i (λ j. not (eqb (at ps i) (at ps j)))) (lt-ltb (at ps i) (fitted S) (below i hi)) (apart i hi)))

  are_records : AreRecords (code S) (fitted S) pkg (positions S f) issue (records S f)
  are_records = record {
    bytes = Bytes-package;
    sized = ap misfit length-package ∙ fit;
    places = places;
    least = low;
    most = high;
    long = length-records S sound most f many ∙ ap (λ n. needed S * n) whole_is;
    each = λ i hi.
        let c = at (positions S f) i in
        let lengths : AllByRecursion (λ d. length (held (S.row.slot d f)) ≡ wide) (positions S f) =
        All-weaker _ (λ d. length (held (S.row.slot d f)) ≡ wide) (λ d h. h.1 ∙ whole_is) (positions S f) (positions_hold S f) in
        let here : part (records S f) (i * wide) wide ≡ record_of (code S) pkg c issue =
        part_joined (λ d. held (S.row.slot d f)) wide (positions S f) lengths i (omega (arith, count))
        ∙ ap held (All-get_or (λ d. S.row.slot d f ≡ Held (record_of (code S) pkg d issue)) (positions S f) i 0 (omega (arith, count)) keep) in
        subst (IsRecord (code S) pkg c issue) (sym here)
        (is_record (code S) laws W pkg c issue Bytes-package (omega (arith, within, most)) (omega (arith, below i hi, most)));
  }

  joined_so : (join_answer (code S) (fitted S) (package_bytes S f) (positions S f) (records S f) (package_bytes S f) ≡ Ok (package_bytes S f)) × (got_package S f ≡ pkg)
  joined_so =
      subst (λ b. (join_answer (code S) (fitted S) b (positions S f) (records S f) b ≡ Ok b) × (package_from (code S) b (positions S f) (records S f) ≡ pkg)) length-package
      (join_each (code S) laws W (fitted S) (positions S f) (records S f) least (omega (arith, within, most)) most pkg issue (length pkg) are_records (omega arith))

  pub got_it : got_file S f ≡ file
  got_it = ap (unsealed S.fit.encrypt S.fit.cipher) joined_so.1 ∙ unsealed-sealed S.fit.encrypt S.fit.cipher key file block.0 (omega (arith, short))

  unsealed_so : unseal_answer S.fit.encrypt S.fit.cipher (got_package S f) 4092 ≡ Ok (length file)
  unsealed_so =
      ap (λ p. unseal_answer S.fit.encrypt S.fit.cipher p 4092) joined_so.1 ∙ into (replicate 4092 0) (length-replicate {A = ℕ} 4092 0)
    where
      into : (out : List ℕ) → length out ≡ 4092 → unseal_answer S.fit.encrypt S.fit.cipher pkg 4092 ≡ Ok (length file)
      into out long =
          let E = S.fit.encrypt in
          let number = S.fit.cipher in
          let answer = unseal_answer E number pkg (length out) in
          ap (unseal_answer E number pkg) (sym long)
          ∙ ((exact E number cipher pkg Bytes-package answer out (leaves answer out (over (unsealed E number pkg) out)) refl refl).each file
          (record { bytes = bytes; short = short; key = key; block = block; seals = refl }) (omega (arith, long, short))).0

  pub gets_it : (out : ℕ) → f < 8 → (kept S f).current ≡ true → length file ≤ out → get_answer S f out false ≡ Ok (length file)
  gets_it out there current room =
      let answer = unseal_answer S.fit.encrypt S.fit.cipher (got_package S f) 4092 in
      passes (leb 8 f) NoFile _ (lt-leb 8 f there) ∙ passes (not (kept S f).current) NotCurrent _ (ap not current)
      ∙ passes (ltb out (kept S f).size) OutputShort _ (le-ltb out (kept S f).size (omega (arith, size, room)))
      ∙ passes (too_few S f) (TooFew (absent_of S.row (due S f) f (fitted S))) _ many ∙ ap (λ r. pass Slice r (λ _. sized_answer answer (kept S f).size)) joined_so.0
      ∙ ap (λ r. sized_answer r (kept S f).size) unsealed_so
      ∙ passes (not (eqb (length file) (kept S f).size)) (Seal NoSuchFile) (Ok (length file)) (not_from_true (eqb (length file) (kept S f).size) (eq-eqb (length file) (kept S f).size (sym size)))

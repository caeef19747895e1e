-- A repair on the site's model, from what the calls in it answer. Assumes nothing.
use Rattle.std.proofs.Common.{◌≡◌, ℕ, ◌*◌, ◌≤◌, Bool, false, not, ◌&&◌, ltb, leb, List, [], ◌∷◌, length, take, drop, Ok, Result, sym, refl, ap, ◌∙◌, arith}
use Rattle.std.proofs.lemmas.List.{length-append, take_at}
use Rattle.base.specs.Answers.{leaves, refuse}
use Rattle.base.specs.Bytes.{over}
use Rattle.base.proofs.Refusing.{leaves-through, past, passes}
use Rattle.erasure.specs.declared.head.Head.{Head}
use Rattle.recovery.specs.Formula.{rebuilt}
use Rattle.rows.specs.Model.{RowModel, Held, Sound}
use Rattle.standing.specs.Sets.{absent_of, members}
use Rattle.site.specs.declared.fault.SiteCause.{SiteCause}
use Rattle.site.specs.declared.fault.SiteCause.TheVariants.{MemoryShort, NoFile, NotCurrent, TooFew}
use Rattle.site.specs.declared.files.Kept.{Kept}
use Rattle.site.specs.Calls.{of_current, rebuilding, repair_after, repair_answer, repaired}
use Rattle.site.specs.Model.{SiteModel, code, due, fitted, kept, lacking, needed, package_bytes, positions, records, too_few, whole, with_row, with_slots}
use Rattle.site.specs.Steps.{ended, enough, lacks, rebuild_for, rewrites}
use Rattle.site.proofs.Collected.{length-records}

-- a file that is current
module _ (S : SiteModel) (f : ℕ) (last : Kept) (here : of_current S f (Ok (kept S f)) ≡ Ok last) where
  tests : (leb 8 f ≡ false) × (not (kept S f).current ≡ false) × (kept S f ≡ last)
  tests =
      let p = past (leb 8 f) NoFile (refuse (not (kept S f).current) NotCurrent (Ok (kept S f))) last here in
      let q = past (not (kept S f).current) NotCurrent (Ok (kept S f)) last p.1 in
      (p.0, q.0, cc q.1)

  pub is_current_now : not (kept S f).current ≡ false
  is_current_now = tests.1

  pub is_kept : last ≡ kept S f
  is_kept = sym tests.2

  pub is_current : {T : Type 0} (next : Result T SiteCause) → of_current S f next ≡ next
  is_current next = passes (leb 8 f) NoFile _ tests.0 ∙ passes (not (kept S f).current) NotCurrent next tests.1

-- records that were collected
module _ (S : SiteModel) (f : ℕ) where
  pub are_enough : (r : Result (List ℕ) SiteCause) (ps : List ℕ) → ended r ≡ enough S f → r ≡ Ok ps → too_few S f ≡ false
  are_enough r ps e ok = (past (too_few S f) (TooFew (absent_of S.row (due S f) f (fitted S))) (Ok 0) 0 (sym e ∙ ap ended ok)).0

  module _ (sound : Sound S.row) (most : fitted S ≤ 16) (more : too_few S f ≡ false) (was out : List ℕ) (eo : out ≡ over (records S f) was) where
    size : length (records S f) ≡ needed S * whole S f
    size = length-records S sound most f more

    pub within : needed S * whole S f ≤ length out
    within = omega (arith, size, ap length eo, length-append (records S f) (drop (length (records S f)) was))

    pub collected : (n : ℕ) → n ≡ needed S * whole S f → take n out ≡ records S f
    collected n e = ap (take n) eo ∙ take_at (records S f) (drop (length (records S f)) was) n (size ∙ sym e)

  repaired_is : (cs : List ℕ) → rewrites (rebuilding S f) cs ≡ repaired S f cs
  repaired_is [] = refl
  repaired_is (c ∷ cs) = refl

  module _ (last : Kept) (here : of_current S f (Ok (kept S f)) ≡ Ok last) (more : too_few S f ≡ false) (short : Bool) (es : short ≡ false)
      (bytes : ℕ) (ps rs : List ℕ) (head : Head) (eb : bytes ≡ package_bytes S f) (ep : ps ≡ positions S f) (er : rs ≡ records S f) (eh : head ≡ due S f)
      (r : Result ℕ SiteCause) (row : RowModel) where
    pub repair_told : r ≡ rewrites (rebuild_for (code S) (fitted S) bytes ps rs head.whole) (members (lacks S.row head f) (fitted S)) → r ≡ repair_answer S f short
    repair_told e =
        e ∙ ap (λ h. rewrites (rebuild_for (code S) (fitted S) bytes ps rs h.whole) (members (lacks S.row h f) (fitted S))) eh
        ∙ ap (λ b. rewrites (rebuild_for (code S) (fitted S) b ps rs (whole S f)) (members (lacking S f) (fitted S))) eb
        ∙ ap (λ p. rewrites (rebuild_for (code S) (fitted S) (package_bytes S f) p rs (whole S f)) (members (lacking S f) (fitted S))) ep
        ∙ ap (λ q. rewrites (rebuild_for (code S) (fitted S) (package_bytes S f) (positions S f) q (whole S f)) (members (lacking S f) (fitted S))) er
        ∙ repaired_is (members (lacking S f) (fitted S))
        ∙ sym (is_current S f last here _ ∙ passes short MemoryShort _ es ∙ passes (too_few S f) _ _ more)

    pub repair_left : row ≡ leaves r S.row (with_slots S.row (λ c. ltb c (fitted S) && lacks S.row head f c) f (λ c. Held (rebuilt (code S) bytes ps rs c))) →
        with_row S row ≡ leaves r S (repair_after S f)
    repair_left e =
        ap (with_row S)
        (e ∙ ap (λ h. leaves r S.row (with_slots S.row (λ c. ltb c (fitted S) && lacks S.row h f c) f (λ c. Held (rebuilt (code S) bytes ps rs c)))) eh
        ∙ ap (λ b. leaves r S.row (with_slots S.row (λ c. ltb c (fitted S) && lacking S f c) f (λ c. Held (rebuilt (code S) b ps rs c)))) eb
        ∙ ap (λ p. leaves r S.row (with_slots S.row (λ c. ltb c (fitted S) && lacking S f c) f (λ c. Held (rebuilt (code S) (package_bytes S f) p rs c)))) ep
        ∙ ap (λ q. leaves r S.row (with_slots S.row (λ c. ltb c (fitted S) && lacking S f c) f (λ c. Held (rebuilt (code S) (package_bytes S f) (positions S f) q c)))) er)
        ∙ leaves-through (with_row S) r S.row (with_slots S.row (λ c. ltb c (fitted S) && lacking S f c) f (λ c. Held (rebuilt (code S) (package_bytes S f) (positions S f) (records S f) c)))

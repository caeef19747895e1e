-- A read that is refused tells why the slot does not make its cabinet stand. Assumes nothing.
use Rattle.std.proofs.Common.{◌≡◌, ℕ, true, not, ltb, length, Some, Ok, Err, Result, sym, refl, ap, ◌∙◌, ⊎_elim, arith}
use Rattle.std.proofs.lemmas.Bool.{cases_lt, le-ltb}
use Rattle.base.proofs.Refusing.{passes}
use Rattle.erasure.specs.declared.head.Head.{Head}
use Rattle.rows.specs.declared.fault.Fault.{Fault}
use Rattle.rows.specs.declared.fault.RowCause.{RowCause}
use Rattle.rows.specs.declared.fault.RowCause.TheVariants as cause
use Rattle.rows.specs.Calls.{held_answer, read_answer}
use Rattle.rows.specs.Faults.{slot_fault}
use Rattle.rows.specs.Model.{RowModel, Slot, Sound, Empty, Condemned, Held}
use Rattle.rows.proofs.Laws.{a_slot, no_file-of_slot}
use Rattle.standing.specs.declared.cause.Cause.{Cause}
use Rattle.standing.specs.Standing.{slot_cause}
use Rattle.standing.specs.Unread.{unread_cause}
use Rattle.standing.proofs.Laws.{reached_there}

module _ (m : RowModel) (S : Sound m) (due : Head) (c f : ℕ) (e : Fault RowCause) (near : m.reach c ≡ true) where
  of_slot : (s : Slot) → m.slot c f ≡ s → held_answer s c f 6400 ≡ Err e → Some (unread_cause e.cause) ≡ slot_cause due s
  of_slot Empty is h = let w : slot_fault cause.Empty c f ≡ e = cc in ap (λ x. Some (unread_cause x.cause)) (sym w)
  of_slot Condemned is h = let w : slot_fault cause.Condemned c f ≡ e = cc in ap (λ x. Some (unread_cause x.cause)) (sym w)
  of_slot (Held bs) is h =
      let full : Ok (length bs) ≡ Err e = sym (passes (ltb 6400 (length bs)) _ _ (le-ltb 6400 (length bs) (S.most c f bs is))) ∙ h in
      let z : ◌≡◌ {A = ℕ} 0 1 = cc in absurd (omega arith)

  of_read : read_answer m c f 6400 ≡ Err e → Some (unread_cause e.cause) ≡ slot_cause due (m.slot c f)
  of_read h = ⊎_elim
      (λ l. of_slot (m.slot c f) refl (sym (a_slot m c _ f (reached_there m S c near) l ∙ passes (not (m.reach c)) _ _ (ap not near)) ∙ h))
      (λ l.
      let gone : Err (slot_fault cause.NoFile c f) ≡ Err e = sym (no_file-of_slot m c _ f (reached_there m S c near) l) ∙ h in
      let w : slot_fault cause.NoFile c f ≡ e = cc in
      ap (λ x. Some (unread_cause x.cause)) (sym w) ∙ ap (slot_cause due) (sym (S.no_file c f l)))
      (cases_lt f 8)

  pub unread_is : (why : Cause) (answer : Result ℕ (Fault RowCause)) → why ≡ unread_cause e.cause → answer ≡ read_answer m c f 6400 → answer ≡ Err e → Some why ≡ slot_cause due (m.slot c f)
  unread_is why answer w a h = ap Some w ∙ of_read (sym a ∙ h)

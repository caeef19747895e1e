-- A record that is rebuilt: how long it is, that it can be had for each cabinet or for none, and that the row takes it. Assumes
-- nothing.
use Rattle.std.proofs.Common.{◌≡◌, ℕ, ◌+◌, ◌<◌, ◌≤◌, Bool, true, false, cond, not, ltb, List, length, Some, Ok, Err, Result, sym, ap, ◌∙◌, arith}
use Rattle.std.specs.List.{range_with_len, flat_map}
use Rattle.std.proofs.lemmas.List.{length-append}
use Rattle.std.proofs.lemmas.Bool.{lt-ltb, not_from_true}
use Rattle.base.specs.Answers.{leaves, pass, refuse}
use Rattle.base.specs.Bytes.{le_bytes, over}
use Rattle.base.specs.Sizes.{misfit}
use Rattle.base.proofs.Pieces.{length-stored, over_whole}
use Rattle.erasure.specs.declared.fault.SliceFault.{SliceFault}
use Rattle.erasure.specs.declared.fault.SliceCause.TheVariants.{NoCabinet, SymbolMisfit, OutputShort}
use Rattle.erasure.specs.Records.{Coding, columns, head, issue_in, record_length, record_with}
use Rattle.erasure.specs.Slices.{fault_of}
use Rattle.erasure.proofs.Weighing.{head_six}
use Rattle.recovery.specs.Answers.{codes_fit, rebuild_answer, rebuild_rest}
use Rattle.recovery.specs.Formula.{rebuilt, worked_out}
use Rattle.recovery.proofs.Accepted.{given_past, given_passes}
use Rattle.rows.specs.declared.fault.Fault.{Fault}
use Rattle.rows.specs.declared.fault.RowCause.{RowCause}
use Rattle.rows.specs.Calls.{write_answer}
use Rattle.rows.specs.Model.{RowModel, Held, Sound, with_slot}
use Rattle.rows.proofs.Laws.{write_accepted}
use Rattle.standing.proofs.Laws.{reached_there}
use Rattle.site.specs.declared.fault.SiteCause.TheVariants.{Slice}
use Rattle.site.specs.Model.{record_bytes}
use Rattle.site.specs.Steps.{rebuild_for}

-- the last tests of a rebuild, and that those which were passed for one cabinet are passed for another
abbrev tested : ℕ → Bool → Bool → Bool → ℕ → Result ℕ SliceFault
tested c far bad short m = refuse far (fault_of (Some c) NoCabinet) (refuse bad (fault_of (Some c) SymbolMisfit) (refuse short (fault_of (Some c) OutputShort) (Ok m)))

again : (c d x m : ℕ) (far far' bad short : Bool) → far' ≡ false → tested c far bad short m ≡ Ok x → tested d far' bad short m ≡ Ok x
again c d x m true far' bad short e h = let z : ◌≡◌ {A = ℕ} 0 1 = cc in absurd (omega arith)
again c d x m false far' true short e h = let z : ◌≡◌ {A = ℕ} 0 1 = cc in absurd (omega arith)
again c d x m false far' false true e h = let z : ◌≡◌ {A = ℕ} 0 1 = cc in absurd (omega arith)
again c d x m false far' false false e h = ap (λ b. tested d b false false m) e ∙ h

module _ (C : Coding) (n bytes : ℕ) (positions records : List ℕ) where
  length_rebuilt : (c : ℕ) → length (rebuilt C bytes positions records c) ≡ record_length C bytes
  unfolding rebuilt record_with
  length_rebuilt c =
      let symbols : ℕ → ℕ = λ j. worked_out C bytes positions records j c in
      let front = head (record_length C bytes) C.number (issue_in records) in
      let body = flat_map (λ j. le_bytes C.stored (symbols j)) (range_with_len 0 (columns C bytes)) in
      length-append front body ∙ ap (λ m. m + length body) (head_six (record_length C bytes) C.number (issue_in records))
      ∙ ap (λ m. 6 + m) (length-stored symbols C.stored (columns C bytes))

  -- the checks go by the cabinet only in that it is fitted
  rebuilt_for_each : (c d out m : ℕ) → d < n → rebuild_answer C n bytes positions records c out ≡ Ok m → rebuild_answer C n bytes positions records d out ≡ Ok m
  rebuilt_for_each c d out m fitted h =
      let p = given_past C n bytes positions records (Some c) (rebuild_rest C n bytes records c out) m h in
      given_passes C n bytes positions records (Some d) (rebuild_rest C n bytes records d out) p.0
      ∙ again c d m (record_length C bytes) (not (ltb c n)) (not (ltb d n)) (not (codes_fit C bytes records)) (ltb out (record_length C bytes)) (not_from_true (ltb d n) (lt-ltb d n fitted)) p.1

  of_slice : (r : Result ℕ SliceFault) (x : ℕ) → pass {U = ℕ} Slice r Ok ≡ Ok x → r ≡ Ok x
  of_slice (Ok y) x h = cc
  of_slice (Err e) x h = let z : ◌≡◌ {A = ℕ} 0 1 = cc in absurd (omega arith)

  pub alike : (out b c x : ℕ) → c < n → rebuild_for C n bytes positions records out b ≡ Ok x → rebuild_for C n bytes positions records out c ≡ Ok x
  alike out b c x l h = ap (λ r. pass Slice r Ok) (rebuilt_for_each b c out x l (of_slice (rebuild_answer C n bytes positions records b out) x h))

  module _ (m : RowModel) (sound : Sound m) (c f : ℕ) (there : f < 8) (near : m.reach c ≡ true) (out : List ℕ) (due : length out ≡ record_bytes C bytes) (room : length out ≤ m.room) where
    -- what is rebuilt fills an output of the due length, and the row takes it
    pub rewritten : (x : ℕ) (last : List ℕ) (after : RowModel) (rebuild : Result ℕ SliceFault) (write : Result Unit (Fault RowCause)) →
        rebuild ≡ rebuild_answer C n bytes positions records c (length out) → rebuild ≡ Ok x → last ≡ leaves rebuild out (over (rebuilt C bytes positions records c) out) →
        write ≡ write_answer m c f (length last) → after ≡ leaves write m (with_slot m c f (Held last)) →
        after ≡ with_slot m c f (Held (rebuilt C bytes positions records c))
    rewritten x last after rebuild write answer ok fills answer-2 becomes =
        let new = rebuilt C bytes positions records c in
        let sized : misfit bytes ≡ false = (given_past C n bytes positions records (Some c) _ x (sym answer ∙ ok)).0.0 in
        let long : length out ≡ record_length C bytes = due ∙ ap (λ b. cond b 0 (record_length C bytes)) sized in
        let same : last ≡ new = fills ∙ ap (λ r. leaves r out (over new out)) ok ∙ over_whole new out (omega (arith, length_rebuilt c)) in
        let taken : write ≡ Ok tt = answer-2 ∙ ap (λ bs. write_answer m c f (length bs)) same
        ∙ write_accepted m c f (length new) (reached_there m sound c near) there (omega (arith, length_rebuilt c)) (omega (arith, length_rebuilt c)) near in
        becomes ∙ ap (λ r. leaves r m (with_slot m c f (Held last))) taken ∙ ap (λ bs. with_slot m c f (Held bs)) same

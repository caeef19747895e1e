-- A file is sealed, and the record of each cabinet is cut and written. Assumes nothing.
use Rattle.std.proofs.Common.{◌≡◌, ℕ, ◌+◌, ◌-◌, ◌*◌, ◌<◌, ◌≤◌, true, false, not, eqb, ltb, List, length, take, drop, Some, None, Ok, Result, sym, ap, ◌∙◌, arith}
use native.Mathlib.Nat.{sub-zero}
use Rattle.std.proofs.lemmas.List.{length-append, take_at}
use Rattle.std.proofs.lemmas.Bool.{le-ltb}
use Rattle.base.specs.Answers.{leaves, refuse}
use Rattle.base.specs.Bytes.{Bytes, over}
use Rattle.base.specs.Sizes.{misfit}
use Rattle.base.proofs.Lengths.{fits_so}
use Rattle.base.proofs.Refusing.{past, passes, leaves_ok}
use Rattle.algebra.specs.Fields.{Laws, Widths}
use Rattle.algebra.specs.Slices.{combined}
use Rattle.aont.specs.Package.{package_length, sealed}
use Rattle.aont.proofs.Sealed.{length-sealed}
use Rattle.erasure.specs.declared.fault.SliceCause.TheVariants.{NoCabinet, PackageMisfit, IssueZero, OutputShort}
use Rattle.erasure.specs.declared.fault.SliceFault.{SliceFault}
use Rattle.erasure.specs.Records.{Coding, columns, head, record_length}
use Rattle.erasure.specs.Formula.{record_from, record_of, spread, weights_for}
use Rattle.erasure.specs.Slices.{cut_answer, fault_of, spread_answer}
use Rattle.erasure.proofs.Reading.{slices_fit}
use Rattle.erasure.proofs.RecordOf.{record_is}
use Rattle.erasure.proofs.Weighing.{head_six, length-combined}
use Rattle.rows.specs.declared.fault.Fault.{Fault}
use Rattle.rows.specs.declared.fault.RowCause.{RowCause}
use Rattle.rows.specs.Calls.{write_answer}
use Rattle.rows.specs.Model.{RowModel, Sound, Held, with_slot}
use Rattle.rows.proofs.Laws.{write_accepted}
use Rattle.standing.proofs.Laws.{reached_there}

-- a file that can be sealed has a package
pub package-fits : (n : ℕ) → n ≤ 4092 → misfit (package_length n) ≡ false
package-fits n few = fits_so (package_length n) (omega arith) (omega arith) (omega arith)

module _ (C : Coding) (bytes : ℕ) (slices : List ℕ) (c issue : ℕ) where
  abbrev own : List ℕ
  own = record_from C bytes slices c issue

  length_cut : length own ≡ record_length C bytes
  unfolding record_from
  length_cut =
      let body = combined C.ops C.stored (weights_for C c) slices (columns C bytes * C.stored) (columns C bytes) in
      length-append (head (record_length C bytes) C.number issue) body ∙ ap (λ n. n + length body) (head_six (record_length C bytes) C.number issue)
      ∙ ap (λ n. 6 + n) (length-combined C.ops C.stored (weights_for C c) slices (columns C bytes * C.stored) (columns C bytes))

  cut_whole : (n out x : ℕ) → cut_answer C n bytes c issue out ≡ Ok x → record_length C bytes ≡ x
  cut_whole n out x e =
      let C3 : Result ℕ SliceFault = refuse (ltb out (record_length C bytes)) (fault_of (Some c) OutputShort) (Ok (record_length C bytes)) in
      let C2 : Result ℕ SliceFault = refuse (eqb issue 0) (fault_of (Some c) IssueZero) C3 in
      let C1 : Result ℕ SliceFault = refuse (not (ltb c n)) (fault_of (Some c) NoCabinet) C2 in
      let p = past (misfit bytes) (fault_of (Some c) PackageMisfit) C1 x e in
      let q = past (not (ltb c n)) (fault_of (Some c) NoCabinet) C2 x p.1 in
      let r = past (eqb issue 0) (fault_of (Some c) IssueZero) C3 x q.1 in
      let s = past (ltb out (record_length C bytes)) (fault_of (Some c) OutputShort) (Ok (record_length C bytes)) x r.1 in
      cc s.1

  -- what is cut for a cabinet in reach, and written, its slot holds
  pub record_put : (n f whole : ℕ) (m last : RowModel) (out cut : List ℕ) (answer : Result ℕ SliceFault) (r : Result Unit (Fault RowCause)) → Sound m → m.reach c ≡ true → f < 8 → record_length C bytes ≤ m.room →
      answer ≡ Ok whole → answer ≡ cut_answer C n bytes c issue (length out) → cut ≡ leaves answer out (over own out) →
      r ≡ write_answer m c f (length (take (whole - 0) cut)) → last ≡ leaves r m (with_slot m c f (Held (take (whole - 0) cut))) → last ≡ with_slot m c f (Held own)
  record_put n f whole m last out cut answer r sound near hf room ok ea ec er el =
      let long : record_length C bytes ≡ whole = cut_whole n (length out) whole (sym ea ∙ ok) in
      let front : take (whole - 0) cut ≡ own =
      ap (λ k. take k cut) (sub-zero whole) ∙ ap (take whole) (ec ∙ leaves_ok answer whole out (over own out) ok) ∙ take_at own (drop (length own) out) whole (length_cut ∙ long) in
      let size : length (take (whole - 0) cut) ≡ record_length C bytes = ap length front ∙ length_cut in
      let done : r ≡ Ok tt = er ∙ write_accepted m c f (length (take (whole - 0) cut)) (reached_there m sound c near) hf (omega (arith, size)) (omega (arith, size)) near in
      el ∙ leaves_ok r tt m (with_slot m c f (Held (take (whole - 0) cut))) done ∙ ap (λ xs. with_slot m c f (Held xs)) front

-- The package of a file, and its slices, from which the record of each cabinet is cut.
module _ (E : List ℕ → List ℕ → List ℕ) (number : ℕ) (key file : List ℕ) (few : length file ≤ 4092) (wide : length key ≡ 16) where
  abbrev pkg : List ℕ
  pkg = sealed E number key file

  long : length pkg ≡ package_length (length file)
  long = length-sealed E number key file wide

  package_front : (size : ℕ) (out last : List ℕ) → size ≡ package_length (length file) → last ≡ over pkg out → take size last ≡ pkg
  package_front size out last es el = ap (take size) el ∙ take_at pkg (drop (length pkg) out) size (long ∙ sym es)

  module _ (C : Coding) (L : Laws C.ops) (W : Widths C.ops C.width C.stored C.number) (low : 1 ≤ C.needed) (high : C.needed ≤ 16) where
    spread_accepted : (out : ℕ) → 6400 ≤ out → spread_answer C (length pkg) out ≡ Ok (C.needed * (columns C (length pkg) * C.stored))
    spread_accepted out room =
        let size = C.needed * (columns C (length pkg) * C.stored) in
        passes (misfit (length pkg)) (fault_of None PackageMisfit) _ (ap misfit long ∙ package-fits (length file) few)
        ∙ passes (ltb out size) (fault_of None OutputShort) (Ok size)
        (le-ltb out size (omega (arith, slices_fit C.ops C.width C.stored C.number W C.needed (length pkg) low high (omega (arith, long)))))

    -- its slices do so in another
    pub records-spread : (size : ℕ) (out last slices laid : List ℕ) (answer : Result ℕ SliceFault) → Bytes pkg → 6400 ≤ length slices → size ≡ package_length (length file) → last ≡ over pkg out →
        answer ≡ spread_answer C (length (take (size - 0) last)) (length slices) → laid ≡ leaves answer slices (over (spread C (take (size - 0) last)) slices) →
        (c issue : ℕ) → record_from C (package_length (length file)) laid c issue ≡ record_of C pkg c issue
    records-spread size out last slices laid answer bytes room es el ea elaid c issue =
        let front : take (size - 0) last ≡ pkg = ap (λ k. take k last) (sub-zero size) ∙ package_front size out last es el in
        let there : laid ≡ over (spread C pkg) slices =
        elaid ∙ ap (λ xs. leaves answer slices (over (spread C xs) slices)) front
        ∙ leaves_ok answer _ slices (over (spread C pkg) slices) (ea ∙ ap (λ xs. spread_answer C (length xs) (length slices)) front ∙ spread_accepted (length slices) room) in
        ap (λ xs. record_from C (package_length (length file)) xs c issue) there
        ∙ record_is C L W pkg (drop (length (spread C pkg)) slices) (package_length (length file)) c issue bytes (sym long)

-- From the records of the cabinets that stand to the file. Assumes nothing.
use Rattle.std.proofs.Common.{◌≡◌, ℕ, ◌-◌, ◌*◌, ◌≤◌, false, not, eqb, ltb, List, ◌++◌, length, take, drop, IfOk, Ok, Err, Result, sym, refl, ap, ◌∙◌, subst, arith}
use native.Mathlib.Nat.{sub-zero}
use Rattle.std.specs.Str.{bytes_eq}
use Rattle.std.proofs.lemmas.List.{append_assoc, length-take, take_at}
use Rattle.base.specs.Answers.{leaves, pass}
use Rattle.base.specs.Bytes.{over}
use Rattle.base.specs.Sizes.{misfit}
use Rattle.base.proofs.Lengths.{fits}
use Rattle.base.proofs.Pieces.{over_whole}
use Rattle.base.proofs.Refusing.{passes, past}
use Rattle.algebra.specs.Fields.{Widths}
use Rattle.aont.specs.Package.{canary, canary_in, package_length}
use Rattle.aont.specs.Seals.{framed, unseal_answer, unsealed}
use Rattle.erasure.specs.declared.head.Head.{Head}
use Rattle.erasure.specs.Records.{Coding}
use Rattle.recovery.specs.Answers.{join_answer}
use Rattle.recovery.specs.Formula.{package_from}
use Rattle.rows.specs.Model.{Sound}
use Rattle.rows.proofs.Laws.{read_front}
use Rattle.standing.specs.Sets.{absent_of}
use Rattle.site.specs.declared.fault.SiteCause.{SiteCause}
use Rattle.site.specs.declared.fault.SiteCause.TheVariants.{Seal, Slice, TooFew}
use Rattle.site.specs.declared.files.Kept.{Kept}
use Rattle.site.specs.Model.{SiteModel, code, due, due_for, fitted, kept, needed, package_bytes, positions, records, too_few, whole}
use Rattle.site.specs.Calls.{got_file, got_package}
use Rattle.site.specs.Steps.{enough, opened_answer, restored_answer}
use Rattle.site.proofs.Collected.{length-records, package-fits, records-bound}

-- what is as long as the buffer is all that is left in it
pub left_whole : {E : Type 0} (r answer : Result ℕ E) (was now new : List ℕ) → r ≡ answer → now ≡ leaves r was (over new was) → ((n : ℕ) → answer ≡ Ok n → length new ≡ length was) →
    IfOk r (λ _. now ≡ new)
left_whole (Ok n) answer was now new so e long = e ∙ over_whole new was (omega (arith, long n (sym so)))
left_whole (Err x) answer was now new so e long = tt

-- an answer that is passed on was given
passed : {T U E F : Type 0} (f : E → F) (r : Result T E) (next : T → Result U F) (x : U) → pass f r next ≡ Ok x → (y : T) × (r ≡ Ok y) × (next y ≡ Ok x)
passed f (Ok y) next x h = (y, refl, h)
passed f (Err e) next x h = let z : ◌≡◌ {A = ℕ} 0 1 = cc in absurd (omega arith)

module _ (E : List ℕ → List ℕ → List ℕ) (number : ℕ) where
  unsealed-long : (pkg : List ℕ) (out n : ℕ) → unseal_answer E number pkg out ≡ Ok n → n ≡ length (unsealed E number pkg)
  unsealed-long pkg out n h =
      let a = past (misfit (length pkg)) _ _ n h in
      let b = past (not (bytes_eq (canary_in E pkg) canary)) _ _ n a.1 in
      let d = past (not (framed E number pkg)) _ _ n b.1 in
      let e = past (ltb out (length (unsealed E number pkg))) _ _ n d.1 in
      cc e.1

  opened_long : (C : Coding) (k bytes out size n : ℕ) (ps rs : List ℕ) → opened_answer C k E number bytes ps rs out size ≡ Ok n → n ≡ length (unsealed E number (package_from C bytes ps rs))
  opened_long C k bytes out size n ps rs h =
      let a = passed Slice (join_answer C k bytes ps rs bytes) _ n h in
      let b = passed Seal (unseal_answer E number (package_from C bytes ps rs) out) _ n a.2 in
      let d = past (not (eqb b.0 size)) _ (Ok b.0) n b.2 in
      let same : b.0 ≡ n = cc d.1 in
      sym same ∙ unsealed-long (package_from C bytes ps rs) out b.0 b.1

-- opening by a site's field and cipher: a package of so many bytes, from records of cabinets, into so many for a file of so many
abbrev opening : SiteModel → ℕ → List ℕ → List ℕ → ℕ → ℕ → Result ℕ SiteCause
opening S bytes ps rs out size = opened_answer (code S) (fitted S) S.fit.encrypt S.fit.cipher bytes ps rs out size

-- What the code restores a file from, by its own names.
module _ (S : SiteModel) (sound : Sound S.row) (W : Widths (code S).ops (code S).width (code S).stored (code S).number) (plan : (1 ≤ needed S) × (needed S ≤ fitted S) × (fitted S ≤ 16))
    (f : ℕ) (so : Ok 0 ≡ enough S f) (state : Kept) (same : state ≡ kept S f) (head : Head) (eh : head ≡ due_for S.fit state)
    (k wide bytes : ℕ) (ek : k ≡ needed S) (ew : wide ≡ head.whole) (eb : bytes ≡ package_length state.size) where
  many : too_few S f ≡ false
  many = (past (too_few S f) (TooFew (absent_of S.row (due S f) f (fitted S))) (Ok 0) 0 (sym so)).0

  count : k * wide ≡ needed S * whole S f
  count = ap (λ m. m * wide) ek ∙ ap (λ m. needed S * m) (ew ∙ ap (λ h. h.whole) (eh ∙ ap (due_for S.fit) same))

  bytes_due : bytes ≡ package_bytes S f
  bytes_due = eb ∙ ap (λ s. package_length s.size) same

  pub records-within : k * wide ≤ 6400
  records-within = omega (arith, count, records-bound S f W plan.0 (omega (arith, plan)))

  pub package-within : bytes ≤ 4128
  package-within = omega (arith, bytes_due, (fits (package_bytes S f) (package-fits S sound plan.2 f many plan.0)).2)

  module _ (places rs was sealed opened last rest : List ℕ) (r : Result ℕ SiteCause) (ep : places ≡ positions S f) (er : rs ≡ over (records S f) was)
      (room : 6400 ≤ length sealed) (space : 6400 ≤ length opened)
      (answer : r ≡ opening S (length (take (bytes - 0) sealed)) places (take (k * wide - 0) rs) (length (take 4092 opened)) state.size)
      (opens : IfOk r (λ _. last ≡ over (unsealed S.fit.encrypt S.fit.cipher (package_from (code S) (length (take (bytes - 0) sealed)) places (take (k * wide - 0) rs))) (take 4092 opened))) where
    bytes_are : length (take (bytes - 0) sealed) ≡ package_bytes S f
    bytes_are = omega (arith, length-take (bytes - 0) sealed, package-within, bytes_due)

    records_are : take (k * wide - 0) rs ≡ records S f
    records_are =
        ap (λ m. take m rs) (sub-zero (k * wide)) ∙ ap (take (k * wide)) er
        ∙ read_front (records S f) was (k * wide) (count ∙ sym (length-records S sound plan.2 f many))

    opened_are : r ≡ opening S (package_bytes S f) (positions S f) (records S f) 4092 (kept S f).size
    opened_are =
        let out : length (take 4092 opened) ≡ 4092 = omega (arith, length-take 4092 opened) in
        answer ∙ ap (λ b. opening S b places (take (k * wide - 0) rs) (length (take 4092 opened)) state.size) bytes_are
        ∙ ap (λ ps. opening S (package_bytes S f) ps (take (k * wide - 0) rs) (length (take 4092 opened)) state.size) ep
        ∙ ap (λ xs. opening S (package_bytes S f) (positions S f) xs (length (take 4092 opened)) state.size) records_are
        ∙ ap (λ o. opening S (package_bytes S f) (positions S f) (records S f) o state.size) out ∙ ap (λ s. opening S (package_bytes S f) (positions S f) (records S f) 4092 s.size) same

    restored_so : r ≡ restored_answer S f
    restored_so = opened_are ∙ sym (passes (too_few S f) (TooFew (absent_of S.row (due S f) f (fitted S))) _ many)

    restored_file : IfOk r (λ n. (n ≡ length (got_file S f)) × (take n (last ++ rest) ≡ got_file S f))
    restored_file =
        let same : package_from (code S) (length (take (bytes - 0) sealed)) places (take (k * wide - 0) rs) ≡ got_package S f =
        ap (λ b. package_from (code S) b places (take (k * wide - 0) rs)) bytes_are
        ∙ ap (λ ps. package_from (code S) (package_bytes S f) ps (take (k * wide - 0) rs)) ep
        ∙ ap (package_from (code S) (package_bytes S f) (positions S f)) records_are in
        by r opened_are (subst (λ pkg. IfOk r (λ _. last ≡ over (unsealed S.fit.encrypt S.fit.cipher pkg) (take 4092 opened))) same opens)
      where
        by : (r : Result ℕ SiteCause) → r ≡ opening S (package_bytes S f) (positions S f) (records S f) 4092 (kept S f).size →
            IfOk r (λ _. last ≡ over (got_file S f) (take 4092 opened)) → IfOk r (λ n. (n ≡ length (got_file S f)) × (take n (last ++ rest) ≡ got_file S f))
        by (Err e) h l = tt
        by (Ok n) h l =
            let long : n ≡ length (got_file S f) =
            opened_long S.fit.encrypt S.fit.cipher (code S) (fitted S) (package_bytes S f) 4092 (kept S f).size n (positions S f) (records S f) (sym h) in
            let after = drop (length (got_file S f)) (take 4092 opened) in
            (long, ap (λ xs. take n (xs ++ rest)) l ∙ ap (take n) (append_assoc (got_file S f) after rest) ∙ take_at (got_file S f) (after ++ rest) n (sym long))

    pub restored : (r ≡ restored_answer S f) × IfOk r (λ n. (n ≡ length (got_file S f)) × (take n (last ++ rest) ≡ got_file S f))
    restored = (restored_so, restored_file)

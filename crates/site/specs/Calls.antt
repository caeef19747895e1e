-- What each call of a site answers, with its refusals in the order of their checks, and what it leaves. Assumes nothing.
use Rattle.std.specs.Prelude.{ℕ, Bool, true, false, not, ◌&&◌, List, [], ◌∷◌, length, set, Ok, Result, ◌==◌, nat_le, nat_lt}
use Rattle.base.specs.Answers.{refuse, pass}
use Rattle.aont.specs.declared.fault.SealFault.TheVariants.{NoSuchFile}
use Rattle.aont.specs.Package.{package_length, sealed}
use Rattle.aont.specs.Seals.{seal_answer, unseal_answer, unsealed}
use Rattle.erasure.specs.Records.{record_length}
use Rattle.erasure.specs.Formula.{record_of}
use Rattle.recovery.specs.Formula.{package_from, rebuilt}
use Rattle.recovery.specs.Answers.{join_answer, rebuild_answer}
use Rattle.rows.specs.Calls.{cabinet_answer, slot_answer}
use Rattle.rows.specs.Model.{Slot, Empty, Held, with_slot, with_reach, with_new}
use Rattle.standing.specs.declared.sets.Survey.{Survey}
use Rattle.standing.specs.Sets.{count_of, members, absent_of, survey_of, away_of}
use Rattle.site.specs.declared.fault.SiteCause.{SiteCause}
use Rattle.site.specs.declared.fault.SiteCause.TheVariants.{Row, Slice, Seal, TooFew, NoCabinet, RoomShort, NoFile, IssueOld, NotCurrent, MemoryShort, OutputShort}
use Rattle.site.specs.Model.{SiteModel, with_files, with_marks, with_row, fitted, code, needed, kept, package_bytes, whole, due, too_few, positions, records, lacking, with_slots}

-- a call that names a current file, and then what comes next
abbrev pub of_current : {T : Type 0} → SiteModel → ℕ → Result T SiteCause → Result T SiteCause
of_current S f next = refuse (nat_le 8 f) NoFile (refuse (not (kept S f).current) NotCurrent next)

-- a call that needs k cabinets that stand for a file, and then what comes next
abbrev pub with_enough : {T : Type 0} → SiteModel → ℕ → Result T SiteCause → Result T SiteCause
with_enough S f next = refuse (too_few S f) (TooFew (absent_of S.row (due S f) f (fitted S))) next

-- a call that names a cabinet, and then what comes next
abbrev pub of_fitted : {T : Type 0} → SiteModel → ℕ → Result T SiteCause → Result T SiteCause
of_fitted S c next = refuse (not (nat_lt c (fitted S))) NoCabinet next

-- the cabinets below n that are in reach
abbrev pub near : SiteModel → ℕ → Bool
near S c = nat_lt c (fitted S) && S.row.reach c

-- put: a file of so many bytes under a key of so many bytes, with working memory that is short or not
abbrev pub put_answer : SiteModel → ℕ → ℕ → ℕ → ℕ → Bool → Result ℕ SiteCause
put_answer S f issue key size short =
    refuse (nat_le 8 f) NoFile
    (refuse (nat_le issue (kept S f).last) (IssueOld (kept S f).last)
    (pass Seal (seal_answer size key (package_length size)) (λ bytes.
    refuse short MemoryShort
    (refuse (nat_lt S.row.room (record_length (code S) bytes)) RoomShort
    (refuse (nat_lt (count_of S.row.reach (fitted S)) (needed S)) (TooFew (record { away = away_of S.row (fitted S); condemned = 0; empty = 0; old = 0 }))
    (Ok (count_of S.row.reach (fitted S))))))))

-- the file is current with this issue and length, and each cabinet in reach has its record
abbrev pub put_after : SiteModel → ℕ → ℕ → List ℕ → List ℕ → SiteModel
put_after S f issue key file =
    with_files S (set S.files f (record { last = issue; current = true; size = length file }))
    (with_slots S.row (near S) f (λ c. Held (record_of (code S) (sealed S.fit.encrypt S.fit.cipher key file) c issue)))

-- the package that the k lowest standing cabinets give, and the file in it
abbrev pub got_package : SiteModel → ℕ → List ℕ
got_package S f = package_from (code S) (package_bytes S f) (positions S f) (records S f)

abbrev pub got_file : SiteModel → ℕ → List ℕ
got_file S f = unsealed S.fit.encrypt S.fit.cipher (got_package S f)

-- get: with an output of so many bytes
abbrev pub get_answer : SiteModel → ℕ → ℕ → Bool → Result ℕ SiteCause
get_answer S f out short =
    of_current S f
    (refuse short MemoryShort
    (refuse (nat_lt out (kept S f).size) OutputShort
    (with_enough S f
    (pass Slice (join_answer (code S) (fitted S) (package_bytes S f) (positions S f) (records S f) (package_bytes S f)) (λ _.
    pass Seal (unseal_answer S.fit.encrypt S.fit.cipher (got_package S f) 4092) (λ size.
    refuse (not (size == (kept S f).size)) (Seal NoSuchFile) (Ok size)))))))

-- withdraw: the file is not current any more, its last issue is kept, and its slot is empty in each cabinet in reach
abbrev pub withdraw_answer : SiteModel → ℕ → Result Unit SiteCause
withdraw_answer S f = of_current S f (Ok tt)

abbrev pub withdraw_after : SiteModel → ℕ → SiteModel
withdraw_after S f =
    with_files S (set S.files f (record { last = (kept S f).last; current = false; size = (kept S f).size })) (with_slots S.row (near S) f (λ c. Empty))

-- a cabinet's record, rebuilt from those of the k lowest that stand
abbrev pub rebuilt_record : SiteModel → ℕ → ℕ → List ℕ
rebuilt_record S f c = rebuilt (code S) (package_bytes S f) (positions S f) (records S f) c

abbrev pub rebuilding : SiteModel → ℕ → ℕ → Result ℕ SiteCause
rebuilding S f c =
    pass Slice (rebuild_answer (code S) (fitted S) (package_bytes S f) (positions S f) (records S f) c (whole S f)) Ok

-- what is answered where these cabinets get a record
abbrev pub repaired : SiteModel → ℕ → List ℕ → Result ℕ SiteCause
repaired S f [] = Ok 0
repaired S f (c ∷ cs) = pass (λ why. why) (rebuilding S f c) (λ _. Ok (length (c ∷ cs)))

-- repair
abbrev pub repair_answer : SiteModel → ℕ → Bool → Result ℕ SiteCause
repair_answer S f short =
    of_current S f (refuse short MemoryShort (with_enough S f (repaired S f (members (lacking S f) (fitted S)))))

abbrev pub repair_after : SiteModel → ℕ → SiteModel
repair_after S f = with_row S (with_slots S.row (λ c. nat_lt c (fitted S) && lacking S f c) f (λ c. Held (rebuilt_record S f c)))

-- audit
abbrev pub audit_answer : SiteModel → ℕ → Bool → Result Survey SiteCause
audit_answer S f short = of_current S f (refuse short MemoryShort (Ok (survey_of S.row (due S f) f (fitted S))))

-- pull, plug and swap; clear and condemn
abbrev pub cabinet_call : SiteModel → ℕ → Result Unit SiteCause
cabinet_call S c = of_fitted S c (pass Row (cabinet_answer S.row c) Ok)

abbrev pub slot_call : SiteModel → ℕ → ℕ → Result Unit SiteCause
slot_call S c f = of_fitted S c (refuse (nat_le 8 f) NoFile (pass Row (slot_answer S.row c f) Ok))

abbrev pub reach_after : SiteModel → ℕ → Bool → SiteModel
reach_after S c b = with_row S (with_reach S.row c b)

abbrev pub slot_after : SiteModel → ℕ → ℕ → Slot → SiteModel
slot_after S c f s = with_row S (with_slot S.row c f s)

-- an accepted swap opens the cabinet's mark
abbrev pub swap_after : SiteModel → ℕ → SiteModel
swap_after S c = with_marks S (set S.marks c true) (with_new S.row c)

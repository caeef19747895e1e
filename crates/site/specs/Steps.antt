-- Words of private contracts, which nobody has to believe. Assumes nothing.
use Rattle.std.specs.Prelude.{ℕ, Bool, not, ◌&&◌, List, [], ◌∷◌, length, Ok, Err, Result, ◌==◌, nat_le, nat_lt}
use Rattle.base.specs.Answers.{refuse, pass}
use Rattle.aont.specs.declared.fault.SealFault.{SealFault}
use Rattle.aont.specs.declared.fault.SealFault.TheVariants.{NoSuchFile}
use Rattle.aont.specs.Package.{package_length}
use Rattle.aont.specs.Seals.{seal_answer, unseal_answer}
use Rattle.erasure.specs.Records.{Coding, record_length}
use Rattle.erasure.specs.declared.head.Head.{Head}
use Rattle.recovery.specs.Answers.{join_answer, rebuild_answer}
use Rattle.recovery.specs.Formula.{package_from}
use Rattle.rows.specs.Model.{RowModel}
use Rattle.standing.specs.Standing.{stands}
use Rattle.standing.specs.Sets.{away_of, count_of}
use Rattle.site.specs.declared.fault.SiteCause.{SiteCause}
use Rattle.site.specs.declared.fault.SiteCause.TheVariants.{Slice, Seal, TooFew, RoomShort, NoFile, IssueOld}
use Rattle.site.specs.Model.{SiteModel, code, fitted, kept, needed, package_bytes, positions, records}
use Rattle.site.specs.Calls.{with_enough}

-- an answer, whatever it gives
abbrev pub ended : {T E : Type 0} → Result T E → Result ℕ E
ended (Ok x) = Ok 0
ended (Err e) = Err e

-- that enough cabinets stand for a file, or the refusal
abbrev pub enough : SiteModel → ℕ → Result ℕ SiteCause
enough S f = with_enough S f (Ok 0)

-- a file that was unsealed, if it has so many bytes
abbrev pub sized_answer : Result ℕ SealFault → ℕ → Result ℕ SiteCause
sized_answer r size = pass Seal r (λ m. refuse (not (m == size)) (Seal NoSuchFile) (Ok m))

-- joining a package from records and unsealing a file of so many bytes from it, into an output of so many
abbrev pub opened_answer : Coding → ℕ → (List ℕ → List ℕ → List ℕ) → ℕ → ℕ → List ℕ → List ℕ → ℕ → ℕ → Result ℕ SiteCause
opened_answer C n encrypt cipher bytes positions records out size =
    pass Slice (join_answer C n bytes positions records bytes) (λ _.
    sized_answer (unseal_answer encrypt cipher (package_from C bytes positions records) out) size)

-- the rest of get, where a file is current and there is room for it
abbrev pub restored_answer : SiteModel → ℕ → Result ℕ SiteCause
restored_answer S f =
    with_enough S f
    (opened_answer (code S) (fitted S) S.fit.encrypt S.fit.cipher (package_bytes S f) (positions S f) (records S f) 4092 (kept S f).size)

-- cabinet c is to get the record that is due: it is in reach and does not stand, and the row takes the record
abbrev pub lacks : RowModel → Head → ℕ → ℕ → Bool
lacks m due f c = m.reach c && not (stands m due f c) && nat_le due.whole m.room

-- the answer to a rebuild of cabinet c's record into so many bytes
abbrev pub rebuild_for : Coding → ℕ → ℕ → List ℕ → List ℕ → ℕ → ℕ → Result ℕ SiteCause
rebuild_for C n bytes positions records out c = pass Slice (rebuild_answer C n bytes positions records c out) Ok

-- how many cabinets get a record, where the first can be rebuilt
abbrev pub rewrites : (ℕ → Result ℕ SiteCause) → List ℕ → Result ℕ SiteCause
rewrites answer [] = Ok 0
rewrites answer (c ∷ cs) = pass (λ why. why) (answer c) (λ _. Ok (length (c ∷ cs)))

-- the bytes of the package of a file that may be put, and how many cabinets then get a record: put's checks on both sides of
-- that of its memory
abbrev pub put_sized : SiteModel → ℕ → ℕ → ℕ → ℕ → Result ℕ SiteCause
put_sized S f issue key size =
    refuse (nat_le 8 f) NoFile
    (refuse (nat_le issue (kept S f).last) (IssueOld (kept S f).last) (pass Seal (seal_answer size key (package_length size)) Ok))

abbrev pub put_reached : SiteModel → ℕ → Result ℕ SiteCause
put_reached S bytes =
    refuse (nat_lt S.row.room (record_length (code S) bytes)) RoomShort
    (refuse (nat_lt (count_of S.row.reach (fitted S)) (needed S)) (TooFew (record { away = away_of S.row (fitted S); condemned = 0; empty = 0; old = 0 }))
    (Ok (count_of S.row.reach (fitted S))))

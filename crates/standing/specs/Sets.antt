-- Sets of cabinets, and what is told of all cabinets of a site. Assumes nothing.
use Rattle.std.specs.Prelude.{ℕ, zero, suc, ◌+◌, ◌^◌, Bool, cond, not, List, length, take, Some, filter}
use Rattle.std.specs.List.{range_with_len}
use Rattle.erasure.specs.declared.head.Head.{Head}
use Rattle.rows.specs.Model.{RowModel}
use Rattle.standing.specs.declared.cause.Cause.{Cause}
use Rattle.standing.specs.declared.cause.Cause.TheVariants.{Away, Condemned, Empty, Old}
use Rattle.standing.specs.declared.sets.Absent.{Absent}
use Rattle.standing.specs.declared.sets.Survey.{Survey}
use Rattle.standing.specs.Standing.{cause_of, same_cause, stands}

-- the numbers below n that pass a test, in order; how many they are; and as a set, in which member c adds 2^c
abbrev pub members : (ℕ → Bool) → ℕ → List ℕ
members test n = filter test (range_with_len 0 n)

abbrev pub count_of : (ℕ → Bool) → ℕ → ℕ
count_of test n = length (members test n)

unfoldable pub set_of : (ℕ → Bool) → ℕ → ℕ
set_of test zero = 0
set_of test (suc n) = set_of test n + cond (test n) (2 ^ n) 0

-- the k lowest
abbrev pub lowest : ℕ → (ℕ → Bool) → ℕ → List ℕ
lowest k test n = take k (members test n)

-- the cabinets below n that do not stand for a file, each in the set of its one cause
abbrev pub with_cause : RowModel → Head → ℕ → ℕ → Cause → ℕ
with_cause m due f n why = set_of (λ c. same_cause (cause_of m due f c) (Some why)) n

abbrev pub absent_of : RowModel → Head → ℕ → ℕ → Absent
absent_of m due f n = record {
  away = with_cause m due f n Away;
  condemned = with_cause m due f n Condemned;
  empty = with_cause m due f n Empty;
  old = with_cause m due f n Old;
}

abbrev pub survey_of : RowModel → Head → ℕ → ℕ → Survey
survey_of m due f n = record { standing = set_of (stands m due f) n; absent = absent_of m due f n }

-- the cabinets below n that are out of reach
abbrev pub away_of : RowModel → ℕ → ℕ
away_of m n = set_of (λ c. not (m.reach c)) n

-- Worked cases on intervals and stores: what each comes to, one line a case.
use Rattle.std.specs.Prelude.{◌≡◌, ℕ, if◌then◌else◌, List, [], ◌∷◌, length, Ok, Err, Result}
use Rattle.std.specs.List.{AllByRecursion}
use Rattle.snapshot.specs.Intervals.{from_to, meets_reading, narrowed, joined_or_refused}
use Rattle.snapshot.specs.Refusals.{refusal_number}
use Rattle.snapshot.specs.declared.account.Reading.{Reading}
use Rattle.snapshot.specs.declared.account.Write.{Write}
use Rattle.snapshot.specs.declared.fault.Fault.{Fault}
use Rattle.snapshot.specs.declared.fault.Refusal.{Refusal}
use Rattle.snapshot.specs.declared.interval.Interval.{Interval}
use Rattle.store.specs.Meaning.{Meaning, version_of, version_answer, commit_answer, after_prune}

-- what a case comes to
pub data CaseOutcome : Type 0 where
  -- an interval, from low to high
  interval : ℕ → ℕ → CaseOutcome
  -- a reading that does not meet the interval
  apart : CaseOutcome
  -- a commit's timestamp
  committed_at : ℕ → CaseOutcome
  -- a reading's timestamp and promise
  current : ℕ → ℕ → CaseOutcome
  -- a call that is refused, by its number
  refused : ℕ → CaseOutcome

-- a reading with this timestamp and promise, on a leg whose interval is 80 to 120
abbrev narrows : ℕ → ℕ → CaseOutcome
narrows t p =
    let r : Reading = record { value = 0; timestamp = t; promise = p } in
    let n = narrowed (from_to 80 120) r in
    if meets_reading (from_to 80 120) r then interval n.low n.high else apart

abbrev join_outcome : Result Interval Refusal → CaseOutcome
join_outcome (Ok i) = interval i.low i.high
join_outcome (Err r) = refused (refusal_number r)

abbrev joins : Interval → Interval → CaseOutcome
joins i j = join_outcome (joined_or_refused i j)

abbrev commit_outcome : Result ℕ Fault → CaseOutcome
commit_outcome (Ok t) = committed_at t
commit_outcome (Err f) = refused (refusal_number f.refusal)

abbrev read_outcome : Result Reading Fault → CaseOutcome
read_outcome (Ok r) = current r.timestamp r.promise
read_outcome (Err f) = refused (refusal_number f.refusal)

-- a store of depth 16 with this last timestamp that keeps of every key versions at 0, 10 and 30
abbrev three_versions : ℕ → Meaning
three_versions last = record { last = last; capacity = 1024; kept = λ k. version_of 0 0 ∷ version_of 10 1 ∷ version_of 30 2 ∷ [] }

-- a commit of one write at this clock reading
abbrev commits : ℕ → Meaning → CaseOutcome
commits clock m =
    let w : Write = record { key = 0; value = 1 } in
    commit_outcome (commit_answer 16 clock (w ∷ []) m)

abbrev queries : Meaning → ℕ → CaseOutcome
queries m s = read_outcome (version_answer m 0 s)

-- a case: what the rules give, and what it should be
pub record Case : Type 0 where
  pub gives : CaseOutcome
  pub should : CaseOutcome

abbrev case : CaseOutcome → CaseOutcome → Case
case g s = record { gives = g; should = s }

abbrev pub worked_cases : List Case
worked_cases =
    case (narrows 50 60) apart
    ∷ case (narrows 50 90) (interval 80 90)
    ∷ case (narrows 90 130) (interval 90 120)
    ∷ case (narrows 130 140) apart
    ∷ case (narrows 50 80) (interval 80 80)
    ∷ case (narrows 121 130) apart
    ∷ case (joins (from_to 10 20) (from_to 20 30)) (interval 20 20)
    ∷ case (joins (from_to 10 20) (from_to 21 30)) (refused 6)
    ∷ case (commits 100 (three_versions 99)) (committed_at 100)
    ∷ case (commits 5 (three_versions 100)) (committed_at 101)
    ∷ case (queries (three_versions 45) 29) (current 10 29)
    ∷ case (queries (after_prune 10 (three_versions 45)) 9) (refused 15)
    ∷ []

-- every case of the table, of which there are n, comes out as it should
abbrev pub WorkedCases : ℕ → Type 0
WorkedCases n = (length worked_cases ≡ n) × AllByRecursion (λ c. c.gives ≡ c.should) worked_cases

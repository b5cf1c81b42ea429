-- Which times lie in an interval, and what meeting, narrowing and joining do to those times.
use Rattle.std.specs.Prelude.{◌≡◌, ℕ, ◌≤◌, min, max, Bool, if◌then◌else◌, ◌&&◌, Ok, Err, Decides, Result, nat_le}
use Rattle.std.specs.Result as results
use Rattle.snapshot.specs.declared.fault.Refusal.{Refusal}
use Rattle.snapshot.specs.declared.fault.Refusal.TheVariants.{IntervalsApart}
use Rattle.snapshot.specs.declared.interval.Interval.{Interval}
use Rattle.snapshot.specs.declared.account.Reading.{Reading}

abbrev pub from_to : ℕ → ℕ → Interval
from_to l h = record { low = l; high = h }

-- The rules.

-- a reading meets an interval when its promise is not before the low end and its timestamp not after the high end
abbrev pub meets_reading : Interval → Reading → Bool
meets_reading i r = nat_le i.low r.promise && nat_le r.timestamp i.high

-- narrowing: the larger of low and timestamp, the smaller of high and promise
abbrev pub narrowed : Interval → Reading → Interval
narrowed i r = from_to (max i.low r.timestamp) (min i.high r.promise)

-- joining: the larger low and the smaller high, refused where low would exceed high
abbrev pub joined_or_refused : Interval → Interval → Result Interval Refusal
joined_or_refused i j =
    if nat_le (max i.low j.low) (min i.high j.high)
    then Ok (from_to (max i.low j.low) (min i.high j.high))
    else Err IntervalsApart

-- What they mean.

-- time s lies in the interval
abbrev pub Lies : ℕ → Interval → Type 0
Lies s i = (i.low ≤ s) × (s ≤ i.high)

-- the reading's version is known to be current at time s
abbrev pub Current : ℕ → Reading → Type 0
Current s r = (r.timestamp ≤ s) × (s ≤ r.promise)

-- an interval and a reading that each have a time meet exactly when they have one in common
abbrev pub MeetsMeans : Interval → Reading → Bool → Type 0
MeetsMeans i r b = i.low ≤ i.high → r.timestamp ≤ r.promise → Decides b ((s : ℕ) × Lies s i × Current s r)

-- the narrowed interval has the times of the interval at which the reading's version is known to be current
abbrev pub NarrowedMeans : Interval → Reading → Interval → Type 0
NarrowedMeans i r n = (s : ℕ) → (Lies s n → Lies s i × Current s r) × (Lies s i → Current s r → Lies s n)

-- the joined interval has exactly the times of both, and at least one; a refusal says that they have none in common
abbrev pub JoinedMeans : Interval → Interval → Result Interval Refusal → Type 0
JoinedMeans i j r =
    results.MatchResult r
    (λ n. (n.low ≤ n.high) × ((s : ℕ) → (Lies s n → Lies s i × Lies s j) × (Lies s i → Lies s j → Lies s n)))
    (λ e. (e ≡ IntervalsApart) × ((s : ℕ) → Lies s i → Lies s j → ⊥))

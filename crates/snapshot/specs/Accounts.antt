-- The account of a committed chain, and when it is lawful.
use Rattle.std.specs.Prelude.{ℕ, suc, ◌≤◌, min, max, Bool, true, ◌&&◌, List, [], ◌∷◌, length, take, fold, ◌==◌, nat_le, nat_lt}
use Rattle.std.specs.List.{list_all, AllByRecursion}
use Rattle.snapshot.specs.Intervals.{from_to, Lies, Current}
use Rattle.snapshot.specs.Limits.{open_end, is_key, is_worker, is_timestamp, chain_readings, write_keys}
use Rattle.snapshot.specs.declared.account.AccountHead.{AccountHead}
use Rattle.snapshot.specs.declared.account.ChainReading.{ChainReading}
use Rattle.snapshot.specs.declared.account.Write.{Write}

-- the ends of the final interval, the timestamp (0 if nothing was written), the readings in order, and the writes
pub record Account : Type 0 where
  pub low : ℕ
  pub high : ℕ
  pub timestamp : ℕ
  pub readings : List ChainReading
  pub writes : List Write

-- the five numbers of an account
abbrev pub head_of : Account → AccountHead
head_of a =
    record {
      interval = from_to a.low a.high;
      timestamp = a.timestamp;
      readings = length a.readings;
      writes = length a.writes;
    }

-- the account that a head and two lists tell: as many of the lists' first elements as the head says
abbrev pub account_of : AccountHead → List ChainReading → List Write → Account
account_of h rs ws =
    record {
      low = h.interval.low;
      high = h.interval.high;
      timestamp = h.timestamp;
      readings = take h.readings rs;
      writes = take h.writes ws;
    }

-- worker and key are in range, the timestamp is not after the promise, and the promise is before the open end
abbrev pub sound_reading : ChainReading → Bool
sound_reading r =
    is_worker r.worker
    && is_key r.key
    && nat_le r.reading.timestamp r.reading.promise
    && nat_lt r.reading.promise open_end

-- the greatest timestamp, or 0 without readings
abbrev pub greatest_timestamp : List ChainReading → ℕ
greatest_timestamp rs = fold (λ a r. max a r.reading.timestamp) 0 rs

-- the least promise, or the open end without readings
abbrev pub least_promise : List ChainReading → ℕ
least_promise rs = fold (λ a r. min a r.reading.promise) open_end rs

-- keys are in range and rise strictly, the first being k or more
abbrev pub rising_from : ℕ → List Write → Bool
rising_from k [] = true
rising_from k (w ∷ ws) = nat_le k w.key && is_key w.key && rising_from (suc w.key) ws

-- 0 where nothing was written; else a commit's timestamp, later than every promise
abbrev pub sound_timestamp : ℕ → List ChainReading → List Write → Bool
sound_timestamp t rs [] = t == 0
sound_timestamp t rs (w ∷ ws) = is_timestamp t && list_all (λ r. nat_lt r.reading.promise t) rs

-- at most 32 readings and 8 writes
abbrev pub few_enough : List ChainReading → List Write → Bool
few_enough rs ws = nat_le (length rs) chain_readings && nat_le (length ws) write_keys

-- from the greatest timestamp to the least promise, and not empty
abbrev pub agreed_ends : ℕ → ℕ → List ChainReading → Bool
agreed_ends l h rs = l == greatest_timestamp rs && h == least_promise rs && nat_le l h

abbrev pub lawful : Account → Bool
lawful a =
    few_enough a.readings a.writes
    && list_all sound_reading a.readings
    && rising_from 0 a.writes
    && agreed_ends a.low a.high a.readings
    && sound_timestamp a.timestamp a.readings a.writes

-- What a lawful account means: it has a time, and a time up to the open end lies from low to high exactly when every
-- reading's version is known to be current then.
pub record CommonTimes (a : Account) : Type 0 where
  pub some : a.low ≤ a.high
  pub when_in : (s : ℕ) → Lies s (from_to a.low a.high) → AllByRecursion (λ r. Current s r.reading) a.readings
  pub only_in : (s : ℕ) → s ≤ open_end → AllByRecursion (λ r. Current s r.reading) a.readings → Lies s (from_to a.low a.high)

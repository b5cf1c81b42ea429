-- The invariant of a trace: what is so of every engine, against what its trace shows.
use Rattle.std.proofs.Common.{◌≡◌, ℕ, ◌<◌, ◌≤◌, true, List, map, length, IfSome, Ok, Err, Option}
use Rattle.std.specs.List.{ContainsAt as Has, AllByRecursion}
use Rattle.snapshot.specs.Accounts.{Account, greatest_timestamp, least_promise, rising_from, lawful}
use Rattle.snapshot.specs.Limits.{open_end, is_key, is_worker}
use Rattle.snapshot.specs.Limits as limit
use Rattle.snapshot.specs.declared.account.Reading.{Reading}
use Rattle.snapshot.specs.declared.account.Write.{Write}
use Rattle.snapshot.specs.declared.fault.EngineFault.{EngineFault}
use Rattle.snapshot.specs.declared.fault.Refusal.TheVariants.{VersionGone}
use Rattle.snapshot.specs.declared.interval.Interval.{Interval}
use Rattle.store.specs.Meaning.{Meaning, Issuing, written_to}
use Rattle.store.proofs.Standing.{Stands}
use Rattle.engine_model.specs.Engines.{OpenLeg, LegState, unused, running, ended, Chain, Engine}
use Rattle.engine_model.specs.Law.{GoneLaw, leg_at, without_times}
use Rattle.engine_model.specs.Traces.{Trace, AtEach, event, NewStore, ByRules, engine_after, history_of, store_after, ObservedLeg, ObservedChain, ValueRead, value_read, observed_of, first_reads, observed_readings}
use Rattle.engine_model.specs.Rules.{Rules}
use Rattle.engine_model.specs.declared.calls.Call.TheVariants as call
use Rattle.engine_model.specs.declared.limits.ChainLimits.{ChainLimits}
use Rattle.engine_model.specs.declared.records.LegReading.{LegReading}
use Rattle.engine_model.proofs.Readings.{History, TrueReading, AllTrue}

-- The interval of an open leg, in a chain with these readings.
pub record TimesSound (last : ℕ) (readings : List LegReading) (i : Interval) : Type 0 where
  -- it is not empty
  pub some : i.low ≤ i.high
  -- it ends at the open end or before
  pub to_open_end : i.high ≤ open_end
  -- and begins at last or before
  pub from_known : i.low ≤ last
  -- low is not above the greatest timestamp that the chain has read
  pub low_read : i.low ≤ greatest_timestamp (map (λ r. r.made) readings)
  -- nor high below the least promise
  pub high_read : least_promise (map (λ r. r.made) readings) ≤ i.high

-- The write set of an open leg, of which the events show these writes.
pub record WritesSound (limits : ChainLimits) (written : ℕ → Option ℕ) (ws : List Write) : Type 0 where
  -- its keys rise
  pub rising : rising_from 0 ws ≡ true
  -- it is no larger than the chain's limit
  pub few : length ws ≤ limits.write_keys
  -- it has what the events show
  pub as_observed : (k : ℕ) → written_to k ws ≡ written k

-- One open leg, of which the events show this.
pub record LegSound (last : ℕ) (limits : ChainLimits) (readings : List LegReading) (observed : ObservedLeg) (leg : OpenLeg) : Type 0 where
  -- its worker is one
  pub worker : is_worker leg.worker ≡ true
  -- and that which the events show
  pub same_worker : observed.worker ≡ leg.worker
  -- its interval is sound
  pub times : TimesSound last readings leg.interval
  -- and so is its write set
  pub writes : WritesSound limits observed.written leg.writes

-- what is so of a leg if it is open
abbrev pub IfRunning : (OpenLeg → Type 0) → LegState → Type 0
IfRunning P unused = Unit {0}
IfRunning P (running leg) = P leg
IfRunning P ended = Unit {0}

-- a reading covers the interval of one of these legs that is open
pub record Covers (legs : ℕ → LegState) (r : LegReading) : Type 0 where
  -- the leg, by its number
  pub number : ℕ
  pub leg : OpenLeg
  pub is_open : legs number ≡ running leg
  -- the reading's version is known to be current from its low end to its high end
  pub from_low : r.made.reading.timestamp ≤ leg.interval.low
  pub to_high : leg.interval.high ≤ r.made.reading.promise

-- a reading that a chain made
pub record ReadingSound (h : History) (last : ℕ) (r : LegReading) : Type 0 where
  -- its worker is one
  pub worker : is_worker r.made.worker ≡ true
  -- it is true
  pub is_true : TrueReading h last r.made.key r.made.reading

-- a value that was answered is that of one of these readings
pub record Shown (readings : List LegReading) (x : ValueRead) : Type 0 where
  -- the reading
  pub reading : LegReading
  pub there : Has readings reading
  -- it is of the key that was read, and has the value that was answered
  pub same_key : reading.made.key ≡ x.key
  pub same_value : reading.made.reading.value ≡ x.value

-- the leg that made a reading was opened, at the worker that the reading names
pub record OfLeg (opened : ℕ) (legs : ℕ → ObservedLeg) (r : LegReading) : Type 0 where
  pub was_opened : r.leg < opened
  pub same_worker : (legs r.leg).worker ≡ r.made.worker

-- a chain's reading as a read that was answered
abbrev pub as_read : LegReading → ValueRead
as_read r = value_read r.leg r.made.key r.made.reading.value

-- The legs of a chain, of which the events show this.
pub record LegsSound (last : ℕ) (limits : ChainLimits) (observed : ObservedChain) (c : Chain) : Type 0 where
  -- no more legs were opened than there are numbers
  pub few_legs : c.opened ≤ limit.leg_count
  -- those not opened yet are unused
  pub unopened : (l : ℕ) → c.opened ≤ l → c.legs l ≡ unused
  -- every open leg is sound
  pub each : (l : ℕ) → IfRunning (LegSound last limits c.readings (observed.legs l)) (c.legs l)

-- One open chain, of which the events show this.
pub record ChainSound (h : History) (last : ℕ) (limits : ChainLimits) (observed : ObservedChain) (c : Chain) : Type 0 where
  -- its legs are sound
  pub legs : LegsSound last limits observed c
  -- it has no more readings than its limit
  pub few_readings : length c.readings ≤ limits.readings
  -- every reading is true
  pub readings : AllByRecursion (ReadingSound h last) c.readings
  -- and covers the interval of some open leg
  pub covered : AllByRecursion (Covers c.legs) c.readings
  -- every value answered outside the chain's writes is that of a reading
  pub shown : AllByRecursion (Shown c.readings) observed.outside
  -- the readings are each leg's first reads of each key, in order
  pub firsts : map as_read c.readings ≡ first_reads observed.outside
  -- and each is of the leg that made it
  pub of_legs : AllByRecursion (OfLeg c.opened observed.legs) c.readings

-- The whole engine, over a new store that has become m, after a trace with this history that shows this of each place.
pub record Sound (store : NewStore) (limits : ChainLimits) (h : History) (observed : ℕ → ObservedChain) (m : Meaning) (s : Engine) : Type 0 where
  -- the store is as the trace shows
  pub same_store : s.store ≡ m
  -- it keeps the end of the history of each key, within its depth and capacity
  pub stands : Stands store.depth store.capacity s.store h
  -- nothing has happened at the open end
  pub before_end : s.store.last < open_end
  -- every entry of every cache is true
  pub caches : (w : ℕ) → AllTrue h s.store.last (s.caches w)
  -- every notice that waits is true
  pub notices : AllByRecursion (λ n. TrueReading h s.store.last n.key n.reading) s.notices.waiting
  -- every open chain is sound
  pub chains : (p : ℕ) → IfSome (s.places p) (ChainSound h s.store.last limits (observed p))

-- A committed account.

-- a value that was answered is backed by a reading, in all of an interval
pub record Backed (h : History) (last low high : ℕ) (x : ValueRead) : Type 0 where
  pub reading : Reading
  -- the reading is true, and has that value
  pub is_true : TrueReading h last x.key reading
  pub same_value : reading.value ≡ x.value
  -- its version is known to be current in all of the interval
  pub from_low : reading.timestamp ≤ low
  pub to_high : high ≤ reading.promise

-- The account of a commit with this clock reading by leg l of a chain of which the events had shown this, after the history
-- `before` and over a store with last timestamp `last_before`: what the law says of it, where each value that was read is backed by
-- a reading that is true of the history h.
pub record Confirmed (timestamps : Issuing) (h : History) (last : ℕ) (before : History) (last_before : ℕ) (observed : ObservedChain) (l clock : ℕ) (a : Account) : Type 0 where
  -- its interval is not empty
  pub some : a.low ≤ a.high
  -- every value that the chain read outside its own writes is backed in all of it
  pub backed : AllByRecursion (Backed h last a.low a.high) observed.outside
  -- its readings are those that the events show of the chain
  pub its_readings : without_times a.readings ≡ observed_readings observed
  -- and each of them is true
  pub true_readings : AllByRecursion (λ r. TrueReading h last r.key r.reading) a.readings
  -- its writes are those that the events show of the leg
  pub its_writes : (k : ℕ) → written_to k a.writes ≡ (observed.legs l).written k
  -- its timestamp is the one that is chosen
  pub its_timestamp : 1 ≤ length a.writes → timestamps clock last_before ≡ Ok a.timestamp
  -- later than everything before
  pub after_history : 1 ≤ length a.writes → (k : ℕ) → is_key k ≡ true → AllByRecursion (λ v. v.timestamp < a.timestamp) (before k)
  -- and than every promise in it
  pub after_promises : 1 ≤ length a.writes → AllByRecursion (λ r. r.reading.promise < a.timestamp) a.readings
  -- the book takes it
  pub for_the_book : lawful a ≡ true

-- The invariant of a trace.
pub record TraceSound (rules : Rules) (limits : ChainLimits) (store : NewStore) (trace : Trace) : Type 0 where
  -- every answer follows by the rules
  pub by_rules : ByRules rules store trace
  -- the engine is sound against what the trace shows
  pub engine : Sound store limits (history_of trace) (observed_of trace) (store_after store trace) (engine_after rules store trace)
  -- every account is confirmed by the history of the whole trace
  pub accounts :
      AtEach (λ e before. (p l clock r w : ℕ) (a : Account) → e ≡ event (call.Commit p l clock r w) (Ok a) →
      Confirmed rules.timestamps (history_of trace) (engine_after rules store trace).store.last (history_of before) (store_after store before).last (observed_of before p) l clock a) trace
  -- every read refused as gone keeps its law
  pub gone :
      AtEach (λ e before. (p l k : ℕ) (f : EngineFault) → e ≡ event (call.Read p l k) (Err f) → f.fault.refusal ≡ VersionGone →
      GoneLaw (history_of before) (store_after store before).kept (leg_at (engine_after rules store before) p l) k) trace

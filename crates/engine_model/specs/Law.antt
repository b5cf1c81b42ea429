-- The law of traces: what a committed chain has read outside its own writes was true together, at every time of its account's
-- interval.
use Rattle.std.specs.Prelude.{◌≡◌, ℕ, ◌+◌, ◌<◌, ◌≤◌, max, true, List, ◌∷◌, map, length, Some, None, Ok, Err, Option}
use Rattle.std.specs.List.{ContainsAt as Has, AllByRecursion}
use Rattle.snapshot.specs.Accounts.{Account, lawful}
use Rattle.snapshot.specs.Intervals.{Lies, from_to}
use Rattle.snapshot.specs.Limits.{is_key}
use Rattle.snapshot.specs.declared.account.ChainReading.{ChainReading}
use Rattle.snapshot.specs.declared.fault.EngineFault.{EngineFault}
use Rattle.snapshot.specs.declared.fault.Refusal.TheVariants.{VersionGone}
use Rattle.store.specs.Laws.{LatestAt, version_read}
use Rattle.store.specs.Meaning.{written_to}
use Rattle.store.specs.declared.version.Version.{Version}
use Rattle.engine_model.specs.Engines.{OpenLeg, LegState, unused, running, Chain, Engine}
use Rattle.engine_model.specs.Traces.{event, Trace, AtEach, NewStore, ByRules, engine_after, trace_of, history_of, store_after, observed_of, UntimedReading, untimed, observed_readings}
use Rattle.engine_model.specs.RuleLaws.{PartsWithLaws, rules_of}
use Rattle.engine_model.specs.Rules.{Rules, the_rules}
use Rattle.engine_model.specs.Steps.{answer_in, step}
use Rattle.engine_model.specs.declared.calls.Call.{Call}
use Rattle.engine_model.specs.declared.calls.Call.TheVariants as call

-- at time s these versions hold this value
abbrev pub ValueAt : ℕ → ℕ → List Version → Type 0
ValueAt s x vs = (v : Version) × LatestAt s v vs × (v.value ≡ x)

-- a reading is true of a history: at every time from its timestamp to its promise its version is the latest of its key
abbrev pub TrueOf : (ℕ → List Version) → ChainReading → Type 0
TrueOf history r = (s : ℕ) → Lies s (from_to r.reading.timestamp r.reading.promise) → LatestAt s (version_read r.reading) (history r.key)

-- the readings of an account without their times
abbrev pub without_times : List ChainReading → List UntimedReading
without_times rs = map (λ r. untimed r.worker r.key r.reading.value) rs

-- An accepted commit by leg l of the chain at place p, with this clock reading and its account: `before` is the trace before it,
-- and `history` the history of the whole trace.
pub record AccountLaw (rules : Rules) (store : NewStore) (history : ℕ → List Version) (before : Trace) (p l clock : ℕ) (a : Account) : Type 0 where
  -- the final interval is not empty
  pub some : a.low ≤ a.high
  -- at every time in it, the history holds every value that the chain read outside its own writes
  pub agrees : (s : ℕ) → Lies s (from_to a.low a.high) → AllByRecursion (λ r. ValueAt s r.value (history r.key)) (observed_of before p).outside
  -- the readings are those that the chain made outside its own writes: each leg's first of each key, in the order in which they
  -- were made, each with the worker of its leg and the value that was answered
  pub its_readings : without_times a.readings ≡ observed_readings (observed_of before p)
  -- and each of them is true of the history, from its timestamp to its promise
  pub true_readings : AllByRecursion (TrueOf history) a.readings
  -- the writes are those that the leg made or took over
  pub its_writes : (k : ℕ) → written_to k a.writes ≡ ((observed_of before p).legs l).written k
  -- if there are any, their timestamp is the one that the rules choose for the clock reading and for the store's last before
  -- it, as the trace shows it
  pub its_timestamp : 1 ≤ length a.writes → rules.timestamps clock (store_after store before).last ≡ Ok a.timestamp
  -- they enter the history at that one timestamp, which is later than everything before
  pub after_history : 1 ≤ length a.writes → (k : ℕ) → is_key k ≡ true → AllByRecursion (λ v. v.timestamp < a.timestamp) (history_of before k)
  -- and later than every promise in the account
  pub after_promises : 1 ≤ length a.writes → AllByRecursion (λ r. r.reading.promise < a.timestamp) a.readings
  -- the book takes the account
  pub for_the_book : lawful a ≡ true

-- a leg of the chain at a place
abbrev pub leg_in : Option Chain → ℕ → LegState
leg_in None l = unused
leg_in (Some c) l = c.legs l

-- a leg of an engine's chain at a place
abbrev pub leg_at : Engine → ℕ → ℕ → LegState
leg_at s p l = leg_in (s.places p) l

-- A read of key k that was refused as gone, on a leg in this state, where `kept` is what the store still keeps of each key: the
-- leg is open, and the version of the key that the history holds at the high end of its interval is not among those kept.
pub record GoneLaw (history kept : ℕ → List Version) (leg : LegState) (k : ℕ) : Type 0 where
  pub reader : OpenLeg
  pub is_open : leg ≡ running reader
  pub version : Version
  pub held : LatestAt reader.interval.high version (history k)
  pub dropped : Has (kept k) version → ⊥

-- The law of a trace over a new store.
pub record TraceLaw (rules : Rules) (store : NewStore) (trace : Trace) : Type 0 where
  -- every answer, and so every account, is the one that follows by the rules from the calls before it
  pub by_rules : ByRules rules store trace
  -- every accepted commit, anywhere in the trace
  pub commits :
      AtEach (λ e before. (p l clock r w : ℕ) (a : Account) → e ≡ event (call.Commit p l clock r w) (Ok a) →
      AccountLaw rules store (history_of trace) before p l clock a) trace
  -- every read that was refused as gone
  pub reads :
      AtEach (λ e before. (p l k : ℕ) (f : EngineFault) → e ≡ event (call.Read p l k) (Err f) → f.fault.refusal ≡ VersionGone →
      GoneLaw (history_of before) (store_after store before).kept (leg_at (engine_after rules store before) p l) k) trace
  -- no interval is ever empty
  pub intervals : (p l : ℕ) (leg : OpenLeg) → leg_at (engine_after rules store trace) p l ≡ running leg → leg.interval.low ≤ leg.interval.high

-- a trace led to this engine: its answers follow by the rules, and the engine is what its calls leave
pub record LedTo (rules : Rules) (store : NewStore) (trace : Trace) (s : Engine) : Type 0 where
  pub by_rules : ByRules rules store trace
  pub leaves : engine_after rules store trace ≡ s

-- Rules are lawful if every trace by them keeps the law, over a new store of any depth and capacity.
pub record KeepTraceLaw (rules : Rules) : Type 0 where
  -- the trace of a new engine, by any list of calls
  pub by_calls : (store : NewStore) (calls : List Call) → TraceLaw rules store (trace_of rules store calls)
  -- a trace that led to an engine, with any call more and what it is answered
  pub one_more_call :
      (store : NewStore) (trace : Trace) (s : Engine) (c : Call) → LedTo rules store trace s →
      TraceLaw rules store (event c (answer_in (step rules store.depth c s)) ∷ trace)

-- whatever caches, timestamps, write sets and limits keep their laws make lawful rules
abbrev pub RestsOnLaws : Type 0
RestsOnLaws = (parts : PartsWithLaws) → KeepTraceLaw (rules_of parts)

-- The rules in force: an accepted commit with writes gets the larger of its clock reading and last + 1, where last is the timestamp
-- of the latest accepted commit with writes before it, and so the greatest timestamp so far, or 0 if there was none.
abbrev pub TimestampLaw : NewStore → Trace → Type 0
TimestampLaw store trace =
    AtEach (λ e before. (p l clock r w : ℕ) (a : Account) → e ≡ event (call.Commit p l clock r w) (Ok a) → 1 ≤ length a.writes →
    a.timestamp ≡ max clock ((store_after store before).last + 1)) trace

-- that is so in every trace by those rules
abbrev pub TimestampsInEveryTrace : Type 0
TimestampsInEveryTrace = (store : NewStore) (trace : Trace) → ByRules the_rules store trace → TimestampLaw store trace

-- Events and traces, and what a trace shows by its calls and answers alone: the history of the site, what the store has kept
-- of it, and of the chain at a place the workers of its legs, what they have written, and what they have read outside the chain's
-- own writes.
use Rattle.std.specs.Prelude.{◌≡◌, ℕ, ◌≤◌, Bool, false, if◌then◌else◌, ◌&&◌, ◌||◌, List, [], ◌∷◌, ◌++◌, map, Some, None, Ok, Err, Option, Result, ◌==◌}
use Rattle.std.specs.Option.{option_or}
use Rattle.std.proofs.Common.{lit≤}
use Rattle.snapshot.specs.Limits.{key_count}
use Rattle.snapshot.specs.declared.account.Write.{Write}
use Rattle.snapshot.specs.declared.fault.EngineFault.{EngineFault}
use Rattle.store.specs.Laws.{versions_of}
use Rattle.store.specs.Meaning.{Meaning, version_of, new_store, with_writes, after_prune, written_to}
use Rattle.store.specs.declared.version.Version.{Version}
use Rattle.engine_model.specs.Engines.{Engine, new_engine}
use Rattle.engine_model.specs.Rules.{Rules}
use Rattle.engine_model.specs.Steps.{AnswerTo, answer_in, engine_in, step}
use Rattle.engine_model.specs.Updates.{with_at}
use Rattle.engine_model.specs.declared.calls.Call.{Call}
use Rattle.engine_model.specs.declared.calls.Call.TheVariants as call

-- Traces.

-- a call with its answer
pub record Event : Type 0 where
  pub called : Call
  pub answer : Result (AnswerTo called) EngineFault

abbrev pub event : (c : Call) → Result (AnswerTo c) EngineFault → Event
event c a = record { called = c; answer = a }

-- what has happened to an engine, the latest first
abbrev pub Trace : Type 0
Trace = List Event

-- of each event and the trace before it
abbrev pub AtEach : (Event → Trace → Type 0) → Trace → Type 0
AtEach R [] = Unit {0}
AtEach R (e ∷ before) = R e before × AtEach R before

-- a new store of any depth from 1 on, with room for a version of each key or more
pub record NewStore : Type 0 where
  pub depth : ℕ
  pub not_none : 1 ≤ depth
  pub capacity : ℕ
  pub room : key_count ≤ capacity

-- a new table of this capacity (16 is the table store's depth), and a new newest store
abbrev pub new_table : (capacity : ℕ) → key_count ≤ capacity → NewStore
new_table capacity room = record { depth = 16; not_none = lit≤ tt; capacity = capacity; room = room }

abbrev pub new_newest : NewStore
new_newest = record { depth = 1; not_none = lit≤ tt; capacity = key_count; room = lit≤ tt }

-- What follows from the calls by the rules.

module _ (rules : Rules) (store : NewStore) where
  abbrev pub new_over : Engine
  new_over = new_engine (new_store store.capacity)

  -- the engine after a trace, by its calls alone
  abbrev pub engine_after : Trace → Engine
  engine_after [] = new_over
  engine_after (e ∷ before) =
      let s = engine_after before in
      engine_in s (step rules store.depth e.called s)

  -- every answer is the one that follows by the rules from the calls before it
  abbrev pub ByRules : Trace → Type 0
  ByRules trace =
      AtEach (λ e before. e.answer ≡ answer_in (step rules store.depth e.called (engine_after before))) trace

  -- the trace that goes on from an engine and the trace that led to it
  abbrev pub trace_from : Engine → Trace → List Call → Trace
  trace_from s before [] = before
  trace_from s before (c ∷ cs) =
      let o = step rules store.depth c s in
      trace_from (engine_in s o) (event c (answer_in o) ∷ before) cs

  -- the trace of a new engine over the new store, by its calls in order
  abbrev pub trace_of : List Call → Trace
  trace_of calls = trace_from new_over [] calls

-- The history.

-- what an accepted call adds to the history: only a commit adds, each of its writes as a version at its timestamp
abbrev pub history_by : (c : Call) → AnswerTo c → (ℕ → List Version) → ℕ → List Version
history_by (call.Begin p w) x h k = h k
history_by (call.Hand p l w) x h k = h k
history_by (call.Fork p l w v) x h k = h k
history_by (call.Join p l j w) x h k = h k
history_by (call.Read p l i) x h k = h k
history_by (call.Write p l i v) x h k = h k
history_by (call.Commit p l c r w) a h k = h k ++ versions_of (Some a.timestamp) (written_to k a.writes)
history_by (call.Abandon p) x h k = h k
history_by (call.Deliver i) x h k = h k
history_by (call.Discard i) x h k = h k
history_by call.Count x h k = h k
history_by (call.Prune h₀) x h k = h k

abbrev pub history_with : (c : Call) → Result (AnswerTo c) EngineFault → (ℕ → List Version) → ℕ → List Version
history_with c (Ok x) h k = history_by c x h k
history_with c (Err f) h k = h k

-- all versions of each key, oldest first: value 0 at time 0, then what the accepted commits wrote
abbrev pub history_of : Trace → ℕ → List Version
history_of [] k = version_of 0 0 ∷ []
history_of (e ∷ before) k = history_with e.called e.answer (history_of before) k

-- What the store has kept.

-- a commit of no writes leaves the store alone
abbrev pub store_with_writes : ℕ → ℕ → List Write → Meaning → Meaning
store_with_writes depth t [] m = m
store_with_writes depth t (w ∷ ws) m = with_writes depth t (w ∷ ws) m

-- only accepted commits and prunes change it
abbrev pub store_by : ℕ → (c : Call) → AnswerTo c → Meaning → Meaning
store_by depth (call.Begin p w) x m = m
store_by depth (call.Hand p l w) x m = m
store_by depth (call.Fork p l w v) x m = m
store_by depth (call.Join p l j w) x m = m
store_by depth (call.Read p l i) x m = m
store_by depth (call.Write p l i v) x m = m
store_by depth (call.Commit p l c r w) a m = store_with_writes depth a.timestamp a.writes m
store_by depth (call.Abandon p) x m = m
store_by depth (call.Deliver i) x m = m
store_by depth (call.Discard i) x m = m
store_by depth call.Count x m = m
store_by depth (call.Prune h) x m = after_prune h m

abbrev pub store_with : ℕ → (c : Call) → Result (AnswerTo c) EngineFault → Meaning → Meaning
store_with depth c (Ok x) m = store_by depth c x m
store_with depth c (Err f) m = m

-- the new store after the accepted commits and prunes of a trace, by the rules of stores
abbrev pub store_after : NewStore → Trace → Meaning
store_after store [] = new_store store.capacity
store_after store (e ∷ before) = store_with store.depth e.called e.answer (store_after store before)

-- The chain at a place.

-- what the events show of a leg: the worker that it was opened at, and of each key the value that it has written or taken over,
-- if any
pub record ObservedLeg : Type 0 where
  pub worker : ℕ
  pub written : ℕ → Option ℕ

abbrev pub observed_leg : ℕ → (ℕ → Option ℕ) → ObservedLeg
observed_leg w ws = record { worker = w; written = ws }

-- a read: its leg and key, and the value that was answered
pub record ValueRead : Type 0 where
  pub leg : ℕ
  pub key : ℕ
  pub value : ℕ

abbrev pub value_read : ℕ → ℕ → ℕ → ValueRead
value_read l k x = record { leg = l; key = k; value = x }

-- what the events show of a chain: its legs by their numbers, and the reads that were answered while their leg had no value for
-- the key, the latest first
pub record ObservedChain : Type 0 where
  pub legs : ℕ → ObservedLeg
  pub outside : List ValueRead

-- nothing so far: no leg was opened (where one was not, its worker counts as 0), and nothing was written or read
abbrev pub nothing_observed : ObservedChain
nothing_observed = record { legs = λ l. observed_leg 0 (λ k. None); outside = [] }

-- a leg was opened at this worker, with these writes
abbrev pub leg_opened : ℕ → ℕ → (ℕ → Option ℕ) → ObservedChain → ObservedChain
leg_opened l w ws d = record { legs = with_at l (observed_leg w ws) d.legs; outside = d.outside }

-- a leg has these writes
abbrev pub leg_wrote : ℕ → (ℕ → Option ℕ) → ObservedChain → ObservedChain
leg_wrote l ws d = leg_opened l (d.legs l).worker ws d

-- where the leg has no value for the key, a read lies outside the chain's writes
abbrev pub outside_with : Option ℕ → ValueRead → List ValueRead → List ValueRead
outside_with None r rs = r ∷ rs
outside_with (Some x) r rs = rs

-- a leg was answered this value for a key
abbrev pub leg_read : ℕ → ℕ → ℕ → ObservedChain → ObservedChain
leg_read l k x d =
    record { legs = d.legs; outside = outside_with ((d.legs l).written k) (value_read l k x) d.outside }

-- what an accepted call shows of the chains, by their places: a begin starts anew, a new leg has its worker and takes over the
-- writes of those that ended for it (where both legs of a join have a key, the second-named one's value), a write and a read are
-- noted
abbrev pub observed_by : (c : Call) → AnswerTo c → (ℕ → ObservedChain) → ℕ → ObservedChain
observed_by (call.Begin p w) n d q = with_at p (leg_opened n w (λ k. None) nothing_observed) d q
observed_by (call.Hand p l w) n d q = with_at p (leg_opened n w ((d p).legs l).written (d p)) d q
observed_by (call.Fork p l w v) ns d q =
    with_at p (leg_opened ns.1 v ((d p).legs l).written (leg_opened ns.0 w ((d p).legs l).written (d p))) d q
observed_by (call.Join p l j w) n d q =
    with_at p (leg_opened n w (λ k. option_or (((d p).legs j).written k) (((d p).legs l).written k)) (d p)) d q
observed_by (call.Read p l k) x d q = with_at p (leg_read l k x (d p)) d q
observed_by (call.Write p l k x) u d q = with_at p (leg_wrote l (with_at k (Some x) ((d p).legs l).written) (d p)) d q
observed_by (call.Commit p l c r w) a d q = d q
observed_by (call.Abandon p) u d q = d q
observed_by (call.Deliver i) u d q = d q
observed_by (call.Discard i) u d q = d q
observed_by call.Count u d q = d q
observed_by (call.Prune h) u d q = d q

abbrev pub observed_with : (c : Call) → Result (AnswerTo c) EngineFault → (ℕ → ObservedChain) → ℕ → ObservedChain
observed_with c (Ok x) d q = observed_by c x d q
observed_with c (Err f) d q = d q

abbrev pub observed_of : Trace → ℕ → ObservedChain
observed_of [] q = nothing_observed
observed_of (e ∷ before) q = observed_with e.called e.answer (observed_of before) q

-- The readings of a chain.

-- has this leg read this key, in one of these reads?
abbrev pub has_read : ℕ → ℕ → List ValueRead → Bool
has_read l k [] = false
has_read l k (r ∷ rs) = (r.leg == l && r.key == k) || has_read l k rs

-- of reads, the latest first, each leg's first of each key, the earliest first
abbrev pub first_reads : List ValueRead → List ValueRead
first_reads [] = []
first_reads (r ∷ rs) = if has_read r.leg r.key rs then first_reads rs else first_reads rs ++ (r ∷ [])

-- a reading without its times: its worker and key, and the value
pub record UntimedReading : Type 0 where
  pub worker : ℕ
  pub key : ℕ
  pub value : ℕ

abbrev pub untimed : ℕ → ℕ → ℕ → UntimedReading
untimed w k x = record { worker = w; key = k; value = x }

-- the readings of a chain, as the events show them: of its reads outside its writes each leg's first of each key, in the order in
-- which they were made, each with the worker of its leg
abbrev pub observed_readings : ObservedChain → List UntimedReading
observed_readings d = map (λ r. untimed (d.legs r.leg).worker r.key r.value) (first_reads d.outside)

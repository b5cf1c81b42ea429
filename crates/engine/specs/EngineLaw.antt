-- The law of traces, of the engine that runs: what its calls add to a trace, and what is so of every trace that led to it.
use Rattle.std.specs.Prelude.{◌≡◌, ℕ, List, ◌∷◌, map, reverse, take, Ok, Result}
use Rattle.snapshot.specs.Accounts.{Account}
use Rattle.snapshot.specs.declared.fault.EngineFault.{EngineFault}
use Rattle.store.specs.Meaning.{Meaning, new_store}
use Rattle.engine_model.specs.Engines.{Engine, new_engine}
use Rattle.engine_model.specs.Law.{AccountLaw, TraceLaw, LedTo}
use Rattle.engine_model.specs.Traces.{event, Event, Trace, NewStore, trace_of, history_of}
use Rattle.engine_model.specs.Rules.{the_rules}
use Rattle.engine_model.specs.Steps.{AnswerTo}
use Rattle.engine_model.specs.declared.calls.Call.{Call}
use Rattle.engine_model.specs.declared.calls.Call.TheVariants as call
use Rattle.engine.specs.Performing.{answers_to, as_result}
use Rattle.engine.specs.declared.answer.Answer.{Answer}

-- so of every trace that led to this engine, over a new store of this depth
abbrev pub InEveryTrace : ℕ → Engine → (NewStore → Trace → Type 0) → Type 0
InEveryTrace depth s P = (store : NewStore) (trace : Trace) → store.depth ≡ depth → LedTo the_rules store trace s → P store trace

-- A trace goes on by a call that was answered so.
pub record ExtendsTrace (store : NewStore) (trace : Trace) (c : Call) (answered : Result Answer EngineFault) (after : Engine) : Type 0 where
  -- the answer that is added to the trace is the one that was given
  pub answer : Result (AnswerTo c) EngineFault
  pub as_given : answered ≡ as_result c answer
  -- the trace with this event added keeps the law, whole
  pub law : TraceLaw the_rules store (event c answer ∷ trace)
  -- and led to the engine after the call, so that the next call adds to it
  pub leads : LedTo the_rules store (event c answer ∷ trace) after

-- A commit by leg l of the chain at place p, with this clock reading and room for r readings and w writes, was answered with this
-- account. With that event added to the trace, the account keeps its law in the history of the whole.
abbrev pub AddsAccount : NewStore → Trace → (p l clock r w : ℕ) → Account → Type 0
AddsAccount store trace p l clock r w a =
    AccountLaw the_rules store (history_of (event (call.Commit p l clock r w) (Ok a) ∷ trace)) trace p l clock a

-- what was answered in an event
abbrev pub answered_in : Event → Result Answer EngineFault
answered_in e = as_result e.called e.answer

-- The trace of an engine over a new store, by these calls, which were answered so.
pub record TraceOfRun (store : NewStore) (calls : List Call) (answers : List (Result Answer EngineFault)) (after : Engine) : Type 0 where
  -- the answers are those of the trace, whose latest event stands first
  pub answered : answers ≡ reverse (map answered_in (trace_of the_rules store calls))
  -- the trace keeps the law
  pub law : TraceLaw the_rules store (trace_of the_rules store calls)
  -- and did so at each step: after the first n calls, for every n
  pub at_each_step : (n : ℕ) → TraceLaw the_rules store (trace_of the_rules store (take n calls))
  -- and led to the engine
  pub leads : LedTo the_rules store (trace_of the_rules store calls) after

-- so of the new store of this depth that means m, if there is one
abbrev pub OverNewStore : ℕ → Meaning → (NewStore → Type 0) → Type 0
OverNewStore depth m P = (store : NewStore) → store.depth ≡ depth → m ≡ new_store store.capacity → P store

-- the calls, on a new engine over such a store, are a trace that keeps the law
abbrev pub RunKeepsLaw : ℕ → List Call → Meaning → Engine → Type 0
RunKeepsLaw depth calls m after =
    OverNewStore depth m (λ store. TraceOfRun store calls (answers_to depth calls (new_engine m)) after)

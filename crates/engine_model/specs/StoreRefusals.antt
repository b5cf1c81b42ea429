-- What a store refuses an engine's calls with: a read only as gone, and a commit only for its clock reading, for want of time
-- or for want of room.
use Rattle.std.specs.Prelude.{◌≡◌, ℕ, ◌⊎◌, List, Some, Err}
use Rattle.snapshot.specs.declared.fault.EngineFault.{EngineFault}
use Rattle.snapshot.specs.declared.fault.Fault.{Fault}
use Rattle.snapshot.specs.declared.fault.Refusal.{Refusal}
use Rattle.snapshot.specs.declared.fault.Refusal.TheVariants.{ClockTooHigh, NoTimeLeft, CapacityExceeded, VersionGone}
use Rattle.store.specs.Meaning.{query_fault}
use Rattle.engine_model.specs.Traces.{event, Trace, AtEach, NewStore, trace_of}
use Rattle.engine_model.specs.Rules.{the_rules}
use Rattle.engine_model.specs.declared.calls.Call.{Call}
use Rattle.engine_model.specs.declared.calls.Call.TheVariants as call

abbrev pub CommitRefusal : Refusal → Type 0
CommitRefusal r = (r ≡ ClockTooHigh) ⊎ ((r ≡ NoTimeLeft) ⊎ (r ≡ CapacityExceeded))

-- in a trace, where a refused call has a store's fault inside
pub record StoreRefusals (trace : Trace) : Type 0 where
  pub reads :
      AtEach (λ e before. (p l k : ℕ) (f : EngineFault) (inner : Fault) → e ≡ event (call.Read p l k) (Err f) → f.of_store ≡ Some inner →
      inner ≡ query_fault VersionGone k) trace
  pub commits :
      AtEach (λ e before. (p l clock r w : ℕ) (f : EngineFault) (inner : Fault) → e ≡ event (call.Commit p l clock r w) (Err f) → f.of_store ≡ Some inner →
      CommitRefusal inner.refusal) trace

-- in every trace of a new engine over a new store
abbrev pub StoreRefusalsInEveryTrace : Type 0
StoreRefusalsInEveryTrace = (store : NewStore) (calls : List Call) → StoreRefusals (trace_of the_rules store calls)

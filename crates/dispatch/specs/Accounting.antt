-- What the account of a committed chain tells, whatever calls came before.
use Rattle.std.specs.Prelude.{◌≡◌, ℕ, List, ◌∷◌, ◌⊎◌, Ok, Err, Result}
use Rattle.std.specs.List.{AllByRecursion}
use Rattle.snapshot.specs.Accounts.{Account}
use Rattle.snapshot.specs.Intervals.{Lies, from_to}
use Rattle.snapshot.specs.Limits.{chain_readings, write_keys}
use Rattle.snapshot.specs.declared.fault.EngineFault.{EngineFault}
use Rattle.snapshot.specs.declared.fault.Refusal.TheVariants.{CapacityExceeded}
use Rattle.store.specs.Meaning.{after_prune}
use Rattle.store.specs.declared.version.Version.{Version}
use Rattle.engine_model.specs.Engines.{Engine}
use Rattle.engine_model.specs.Law.{ValueAt}
use Rattle.engine_model.specs.Traces.{event, history_of}
use Rattle.engine_model.specs.declared.calls.Call.TheVariants as call
use Rattle.engine.specs.EngineLaw.{AddsAccount, InEveryTrace}
use Rattle.engine.specs.StepOf.{step_of}

-- at every time from the account's low to its high, each value in its readings was the one that the history held for the key
abbrev pub Held : (ℕ → List Version) → Account → Type 0
Held history a =
    (s : ℕ) → Lies s (from_to a.low a.high) → AllByRecursion (λ r. ValueAt s r.reading.value (history r.key)) a.readings

-- What this account keeps if leg l commits the chain at place p of this engine at this clock reading. Whatever calls led to the
-- engine: the account keeps the law of traces, and what it lists was so at every time that it names.
unfoldable pub Accounted : (depth : ℕ) → Engine → (p l clock : ℕ) → Account → Type 0
Accounted depth before p l clock a =
    InEveryTrace depth before (λ store trace.
    AddsAccount store trace p l clock chain_readings write_keys a
    × Held (history_of (event (call.Commit p l clock chain_readings write_keys) (Ok a) ∷ trace)) a)

-- the engine once its store was pruned up to a horizon
abbrev pub pruned : ℕ → Engine → Engine
pruned h e = record { places = e.places; caches = e.caches; notices = e.notices; store = after_prune h e.store }

-- leg l commits the chain at place p of this engine at this clock reading: by the rules, with this account and this engine after
abbrev pub Commits : (depth : ℕ) → Engine → (p l clock : ℕ) → Account → Engine → Type 0
Commits depth before p l clock a after =
    ◌≡◌ {A = Result Account EngineFault × Engine} (Ok a, after) (step_of depth (call.Commit p l clock chain_readings write_keys) before)

-- the commit is refused, by the rules, for want of room
abbrev pub RefusedAsFull : (depth : ℕ) → Engine → (p l clock : ℕ) → Type 0
RefusedAsFull depth before p l clock =
    (f : EngineFault) × ◌≡◌ {A = Result Account EngineFault} (Err f) (step_of depth (call.Commit p l clock chain_readings write_keys) before).0
    × (f.fault.refusal ≡ CapacityExceeded)

-- that commit with its account, or where there was no room, the same commit once the store was pruned
abbrev pub AccountedOnceThereIsRoom : (depth : ℕ) → Engine → (p l clock horizon : ℕ) → Account → Engine → Type 0
AccountedOnceThereIsRoom depth before p l clock horizon a after =
    (Commits depth before p l clock a after × Accounted depth before p l clock a)
    ⊎ RefusedAsFull depth before p l clock
    × Commits depth (pruned horizon before) p l clock a after
    × Accounted depth (pruned horizon before) p l clock a

-- the commit was refused for want of room, and the engine after is the one with its store pruned
abbrev pub OnlyPruned : (depth : ℕ) → Engine → (p l clock horizon : ℕ) → Engine → Type 0
OnlyPruned depth before p l clock horizon after = RefusedAsFull depth before p l clock × (after ≡ pruned horizon before)

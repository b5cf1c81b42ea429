-- What an engine means in the model: its chains, its caches, its notices, and what its store means.
use Rattle.std.specs.Prelude.{◌≡◌, ℕ, List, None, Result}
use Rattle.snapshot.specs.declared.account.AccountHead.{AccountHead}
use Rattle.snapshot.specs.declared.account.ChainReading.{ChainReading}
use Rattle.snapshot.specs.declared.account.Write.{Write}
use Rattle.snapshot.specs.declared.fault.EngineFault.{EngineFault}
use Rattle.store.specs.Meaning.{Meaning}
use Rattle.engine_parts.specs.Lists.{item_at}
use Rattle.engine_parts.specs.Caches.{caches_of}
use Rattle.engine_parts.specs.WaitingNotices.{notices_of}
use Rattle.engine_model.specs.Engines as model
use Rattle.engine_model.specs.Steps.{AnswerTo}
use Rattle.engine_model.specs.declared.calls.Call.{Call}
use Rattle.engine_model.specs.declared.calls.Call.TheVariants as call
use Rattle.engine.specs.Commits.{answer_and_lists}
use Rattle.engine.specs.Places.{chain_at}
use Rattle.engine.specs.StepOf.{step_of}
use Rattle.engine.specs.declared.engine.Engine.{Engine}
use Rattle.engine.specs.declared.state.State.{State}

-- the chain at each place, the cache of each worker, the notices, and a store that means m
abbrev pub engine_over : Meaning → State → model.Engine
engine_over m s =
    record { places = item_at chain_at None s.places; caches = caches_of s.caches; notices = notices_of s.notices; store = m }

-- the store below by its own meaning
abbrev pub engine_of : {S : Type 0} → (S → Meaning) → Engine S → model.Engine
engine_of meaning e = engine_over (meaning e.store) e.state

-- Calls, but for the commit into its caller's lists.

-- the answer and the engine after follow by the rules from the call and the engine before
abbrev pub StepFollows : (depth : ℕ) (c : Call) → model.Engine → Result (AnswerTo c) EngineFault → model.Engine → Type 0
StepFollows depth c before answer after =
    ◌≡◌ {A = Result (AnswerTo c) EngineFault × model.Engine} (answer, after) (step_of depth c before)

abbrev pub IsStep :
    {S : Type 0} → (S → Meaning) → (depth : ℕ) (c : Call) → Engine S → Result (AnswerTo c) EngineFault → Engine S → Type 0
IsStep meaning depth c before answer after = StepFollows depth c (engine_of meaning before) answer (engine_of meaning after)

-- so of a call that leaves a store that means m as it is, whatever its depth
abbrev pub StepsOver : Meaning → (c : Call) → State → Result (AnswerTo c) EngineFault → State → Type 0
StepsOver m c before answer after = (depth : ℕ) → StepFollows depth c (engine_over m before) answer (engine_over m after)

-- and over every store
abbrev pub StepsOverAny : (c : Call) → State → Result (AnswerTo c) EngineFault → State → Type 0
StepsOverAny c before answer after = (m : Meaning) → StepsOver m c before answer after

-- The commit into its caller's lists.

-- the two lists of a commit's caller
abbrev pub CallersLists : Type 0
CallersLists = List ChainReading × List Write

-- what a commit answers, its caller's two lists and the engine after follow by the rules from the numbers that it names, the room
-- in the lists, the lists and the engine before
abbrev pub CommitFollows :
    (depth place leg clock r w : ℕ) → model.Engine → CallersLists → Result AccountHead EngineFault → CallersLists → model.Engine → Type 0
CommitFollows depth place leg clock r w before lists answer lists_after after =
    let stepped = step_of depth (call.Commit place leg clock r w) before in
    ◌≡◌ {A = (Result AccountHead EngineFault × CallersLists) × model.Engine}
    ((answer, lists_after), after)
    (answer_and_lists lists.0 lists.1 stepped.0, stepped.1)

abbrev pub IsCommit :
    {S : Type 0} → (S → Meaning) → (depth place leg clock r w : ℕ) → Engine S → CallersLists → Result AccountHead EngineFault → CallersLists →
    Engine S → Type 0
IsCommit meaning depth place leg clock r w before lists answer lists_after after =
    CommitFollows depth place leg clock r w (engine_of meaning before) lists answer lists_after (engine_of meaning after)

-- What follows by the rules from a call and the state before it: the answer, and the state after.
use Rattle.std.specs.Prelude.{ℕ, Result}
use Rattle.snapshot.specs.declared.fault.EngineFault.{EngineFault}
use Rattle.engine_model.specs.Engines.{Engine}
use Rattle.engine_model.specs.Rules.{the_rules}
use Rattle.engine_model.specs.Steps.{AnswerTo, StepOutcome, answer_in, engine_in, step}
use Rattle.engine_model.specs.declared.calls.Call.{Call}

-- what comes of a call in this state
abbrev pub answer_and_engine : {X : Type 0} → Engine → StepOutcome X → Result X EngineFault × Engine
answer_and_engine s o = (answer_in o, engine_in s o)

-- and by the rules in force, over a store of this depth
abbrev pub step_of : (depth : ℕ) (c : Call) → Engine → Result (AnswerTo c) EngineFault × Engine
step_of depth c s = answer_and_engine s (step the_rules depth c s)

-- What a call given as a value answers and leaves, and what a list of calls does.
use Rattle.std.specs.Prelude.{ℕ, List, [], ◌∷◌, Ok, Err, Result}
use Rattle.snapshot.specs.declared.fault.EngineFault.{EngineFault}
use Rattle.engine_model.specs.Engines.{Engine}
use Rattle.engine_model.specs.Replies.{Reply, leg, legs, value, account, counts, done, refusal_reply}
use Rattle.engine_model.specs.Steps.{AnswerTo}
use Rattle.engine_model.specs.declared.calls.Call.{Call}
use Rattle.engine_model.specs.declared.calls.Call.TheVariants as call
use Rattle.engine.specs.StepOf.{step_of}
use Rattle.engine.specs.declared.answer.Answer.{Answer}
use Rattle.engine.specs.declared.answer.Answer.TheVariants as answer

-- what an accepted call answers, as a value
abbrev pub as_answer : (c : Call) → AnswerTo c → Answer
as_answer (call.Begin p w) n = answer.Leg n
as_answer (call.Hand p l w) n = answer.Leg n
as_answer (call.Fork p l w v) ns = answer.Legs ns.0 ns.1
as_answer (call.Join p l j w) n = answer.Leg n
as_answer (call.Read p l k) x = answer.Value x
as_answer (call.Write p l k x) u = answer.Done
as_answer (call.Commit p l c r w) a = answer.Account a
as_answer (call.Abandon p) u = answer.Done
as_answer (call.Deliver i) u = answer.Done
as_answer (call.Discard i) u = answer.Done
as_answer call.Count n = answer.Count n.0 n.1
as_answer (call.Prune h) u = answer.Done

-- a refused call answers its fault
abbrev pub as_result : (c : Call) → Result (AnswerTo c) EngineFault → Result Answer EngineFault
as_result c (Ok x) = Ok (as_answer c x)
as_result c (Err f) = Err f

-- the reply that an answer given as a value makes
abbrev pub answer_reply : Answer → Reply
answer_reply (answer.Leg n) = leg n
answer_reply (answer.Legs n m) = legs n m
answer_reply (answer.Value x) = value x
answer_reply (answer.Count n m) = counts n m
answer_reply (answer.Account a) = account a
answer_reply answer.Done = done

abbrev pub result_reply : Result Answer EngineFault → Reply
result_reply (Ok a) = answer_reply a
result_reply (Err f) = refusal_reply f

-- what a call answers and leaves, by the rules in force, over a store of this depth
abbrev pub performed : ℕ → Call → Engine → Result Answer EngineFault × Engine
performed depth c s = let stepped = step_of depth c s in (as_result c stepped.0, stepped.1)

-- the answers to a list of calls, and the engine after them
abbrev pub answers_to : ℕ → List Call → Engine → List (Result Answer EngineFault)
answers_to depth [] s = []
answers_to depth (c ∷ cs) s = let now = performed depth c s in now.0 ∷ answers_to depth cs now.1

abbrev pub engine_after_calls : ℕ → List Call → Engine → Engine
engine_after_calls depth [] s = s
engine_after_calls depth (c ∷ cs) s = engine_after_calls depth cs (performed depth c s).1

-- A call given as a value is the call of that name.
use Rattle.std.proofs.Common.{◌≡◌, ℕ, Ok, Err, Result, refl, ap, sym, ◌∙◌}
use Rattle.std.specs.Result.{MatchResult, IsOkAnd, result_and}
use Rattle.snapshot.specs.declared.fault.EngineFault.{EngineFault}
use Rattle.engine_model.specs.Engines.{Engine}
use Rattle.engine_model.specs.Steps.{AnswerTo}
use Rattle.engine_model.specs.declared.calls.Call.{Call}
use Rattle.engine.specs.Performing.{performed, as_answer, as_result}
use Rattle.engine.specs.StepOf.{step_of}
use Rattle.engine.specs.declared.answer.Answer.{Answer}
use Rattle.engine.specs.declared.answer.Answer.TheVariants as answer
use Rattle.engine.proofs.ChainSteps.{WithEngine}

-- an answer as a value
abbrev pub Shows : (c : Call) → Result (AnswerTo c) EngineFault → Result Answer EngineFault → Type 0
Shows c r q = MatchResult r (λ x. IsOkAnd q (λ y. y ≡ as_answer c x)) (λ f. q ≡ Err f)

shows_value : (a : Answer) (q : Result Answer EngineFault) → IsOkAnd q (λ y. y ≡ a) → q ≡ Ok a
shows_value a (Ok y) is = ap Ok is
shows_value a (Err f) is = absurd is

pub shows : (c : Call) (r : Result (AnswerTo c) EngineFault) (q : Result Answer EngineFault) → Shows c r q → q ≡ as_result c r
shows c (Ok x) q is = shows_value (as_answer c x) q is
shows c (Err f) q is = is

-- an acceptance as a value
pub accepts :
    (c : Call) → ((x : AnswerTo c) → as_answer c x ≡ answer.Done) → (r : Result (AnswerTo c) EngineFault) →
    result_and r (Ok answer.Done) ≡ as_result c r
accepts c done (Ok x) = ap Ok (sym (done x))
accepts c done (Err f) = refl

-- the call's answer and the engine after it
pub performs :
    (depth : ℕ) (given c : Call) (s t : Engine) (r : Result (AnswerTo c) EngineFault) (q : Result Answer EngineFault) → given ≡ c →
    q ≡ as_result c r → ◌≡◌ {A = WithEngine (AnswerTo c)} (r, t) (step_of depth c s) → (q, t) ≡ performed depth given s
performs depth given c s t r q is as_value stepped =
    let P : Result Answer EngineFault → Result Answer EngineFault × Engine = λ x. (x, t) in
    let Q : WithEngine (AnswerTo c) → Result Answer EngineFault × Engine = λ d. (as_result c d.0, d.1) in
    ap P as_value ∙ ap Q stepped ∙ ap (λ k. performed depth k s) (sym is)

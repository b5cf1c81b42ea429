-- The reply of a call is that of its step.
use Rattle.std.proofs.Common.{◌≡◌, ℕ, Ok, Err, Result, refl, sym, ap, subst, ◌∙◌}
use Rattle.snapshot.specs.declared.fault.EngineFault.{EngineFault}
use Rattle.engine_model.specs.Engines.{Engine}
use Rattle.engine_model.specs.Replies.{CanReply, Replies, reply_of}
use Rattle.engine_model.specs.Steps.{AnswerTo}
use Rattle.engine_model.specs.declared.calls.Call.{Call}
use Rattle.engine_model.specs.declared.calls.Call.TheVariants as call
use Rattle.engine_model.proofs.ReplyProofs.{replies}
use Rattle.engine.specs.Performing.{as_result, performed, result_reply}
use Rattle.engine.specs.StepOf.{step_of}
use Rattle.engine.specs.declared.answer.Answer.{Answer}
use Rattle.engine.proofs.ChainSteps.{WithEngine}

-- of a call by its name
pub step_replies :
    (depth : ℕ) (c : Call) (s t : Engine) (q : Result (AnswerTo c) EngineFault) → ◌≡◌ {A = WithEngine (AnswerTo c)} (q, t) (step_of depth c s) →
    Replies c q
step_replies depth c s t q stepped =
    let answer : WithEngine (AnswerTo c) → Result (AnswerTo c) EngineFault = λ d. d.0 in
    subst (Replies c) (sym (ap answer stepped)) (replies depth c s)

-- of a call as a value
same_reply : (c : Call) (q : Result (AnswerTo c) EngineFault) → reply_of c q ≡ result_reply (as_result c q)
same_reply c (Err f) = refl
same_reply (call.Begin p w) (Ok x) = refl
same_reply (call.Hand p l w) (Ok x) = refl
same_reply (call.Fork p l w v) (Ok x) = refl
same_reply (call.Join p l j w) (Ok x) = refl
same_reply (call.Read p l k) (Ok x) = refl
same_reply (call.Write p l k x) (Ok u) = refl
same_reply (call.Commit p l clock r w) (Ok a) = refl
same_reply (call.Abandon p) (Ok u) = refl
same_reply (call.Deliver i) (Ok u) = refl
same_reply (call.Discard i) (Ok u) = refl
same_reply call.Count (Ok x) = refl
same_reply (call.Prune h) (Ok u) = refl

pub performed_replies :
    (depth : ℕ) (c : Call) (s t : Engine) (q : Result Answer EngineFault) → (q, t) ≡ performed depth c s → CanReply c (result_reply q)
performed_replies depth c s t q stepped =
    let stepped_answer : Result (AnswerTo c) EngineFault = (step_of depth c s).0 in
    subst (CanReply c) (same_reply c stepped_answer ∙ sym (ap (λ d. result_reply d.0) stepped)) (replies depth c s)

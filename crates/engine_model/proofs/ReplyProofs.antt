-- What each call can be replied, taken from the step as it is built.
use Rattle.std.proofs.Common.{◌≡◌, ℕ, ◌⊎◌, inl, inr, List, [], ◌∷◌, length, Some, None, Ok, Err, Option, Result, refl, sym, ap, subst, ◌∙◌, lit<, arith}
use Rattle.std.proofs.lemmas.Bool.Decides.{nat_tests}
use Rattle.std.specs.List.{slice_get}
use Rattle.std.proofs.lemmas.List.Elements.{Contains-push_cases}
use Rattle.std.specs.Option.{option_map, ok_or}
use Rattle.std.specs.Result.{result_and}
use Rattle.snapshot.specs.Accounts.{Account}
use Rattle.snapshot.specs.Intervals.{joined_or_refused}
use Rattle.snapshot.specs.Refusals.{refusal_number, not_named, around_store}
use Rattle.snapshot.specs.declared.fault.EngineFault.{EngineFault}
use Rattle.snapshot.specs.declared.account.Reading.{Reading}
use Rattle.snapshot.specs.declared.interval.Interval.{Interval}
use Rattle.snapshot.specs.declared.account.Write.{Write}
use Rattle.snapshot.specs.declared.fault.Fault.{Fault}
use Rattle.snapshot.specs.declared.fault.Refusal.{Refusal}
use Rattle.snapshot.specs.declared.fault.Refusal.TheVariants.{OutOfRange, IntervalsApart, UnfitWrites, ClockTooHigh, NoTimeLeft, CapacityExceeded, VersionGone}
use Rattle.store.specs.Meaning.{Meaning, in_range, query_fault, store_fault, timestamp_for, if_room, written_to, version_answer, commit_answer}
use Rattle.engine_model.specs.Caches.{answering}
use Rattle.engine_model.specs.Engines.{OpenLeg, Chain, Engine}
use Rattle.engine_model.specs.Replies.{Reply, refused, fault_numbers, refusals_of, CanReply, CanReplyInTrace, Replies, RepliesInEveryTrace, reply_of, refusal_reply}
use Rattle.engine_model.specs.Rules.{the_rules}
use Rattle.engine_model.specs.StoreRefusals.{StoreRefusals}
use Rattle.engine_model.specs.Traces.{event, Trace, engine_after}
use Rattle.engine_model.specs.Steps.{AnswerTo, StepOutcome, answer_in, chain_fault, own_reading, account_for, step, handed_to_store}
use Rattle.engine_model.specs.declared.calls.Call.{Call}
use Rattle.engine_model.specs.declared.calls.Call.TheVariants as call
use Rattle.engine_model.proofs.StoreRefusalProofs.{refusals_in}
use Rattle.engine_model.proofs.Outcomes.{at_check, at_chain, at_open, at_open_leg, at_free, at_result, at_else}

-- the reply of what comes of a call
abbrev IsReplied : (c : Call) → StepOutcome (AnswerTo c) → Type 0
IsReplied c o = Replies c (answer_in o)

begin_replies : (depth p w : ℕ) (s : Engine) → IsReplied (call.Begin p w) (step the_rules depth (call.Begin p w) s)
begin_replies depth p w s =
    let P : StepOutcome ℕ → Type 0 = IsReplied (call.Begin p w) in
    at_check P _ _ _ (inr (0, lit< tt, refl)) (λ _.
    at_free P (s.places p) _ _ (inr (1, lit< tt, refl)) (λ _. inl refl))

hand_replies : (depth p l w : ℕ) (s : Engine) → IsReplied (call.Hand p l w) (step the_rules depth (call.Hand p l w) s)
hand_replies depth p l w s =
    let P : StepOutcome ℕ → Type 0 = IsReplied (call.Hand p l w) in
    at_check P _ _ _ (inr (0, lit< tt, refl)) (λ _.
    at_open_leg P (s.places p) l _ _ (inr (1, lit< tt, refl)) (λ chain leg _ _.
    at_check P _ _ _ (inr (2, lit< tt, refl)) (λ below. inl (chain.opened, grind (arith, nat_tests), refl))))

fork_replies : (depth p l w v : ℕ) (s : Engine) → IsReplied (call.Fork p l w v) (step the_rules depth (call.Fork p l w v) s)
fork_replies depth p l w v s =
    let P : StepOutcome (ℕ × ℕ) → Type 0 = IsReplied (call.Fork p l w v) in
    at_check P _ _ _ (inr (0, lit< tt, refl)) (λ _.
    at_open_leg P (s.places p) l _ _ (inr (1, lit< tt, refl)) (λ chain leg _ _.
    at_check P _ _ _ (inr (2, lit< tt, refl)) (λ below. inl (chain.opened, grind (arith, nat_tests), refl))))

apart : (i j : Interval) (r : Refusal) → joined_or_refused i j ≡ Err r → IntervalsApart ≡ r
apart i j r e = grind arith

join_replies : (depth p l j w : ℕ) (s : Engine) → IsReplied (call.Join p l j w) (step the_rules depth (call.Join p l j w) s)
join_replies depth p l j w s =
    let c : Call = call.Join p l j w in
    let P : StepOutcome ℕ → Type 0 = IsReplied c in
    at_check P _ _ _ (inr (0, lit< tt, refl)) (λ _.
    at_open_leg P (s.places p) l _ _ (inr (1, lit< tt, refl)) (λ chain leg _ _.
    at_open P (chain.legs j) _ _ (inr (1, lit< tt, refl)) (λ other _.
    at_check P _ _ _ (inr (2, lit< tt, refl)) (λ _.
    at_check P _ _ _ (inr (3, lit< tt, refl)) (λ below.
    at_result P (joined_or_refused leg.interval other.interval) _ _
    (λ r answer.
    let Refused : Refusal → Type 0 = λ x. CanReply c (refusal_reply (chain_fault p l not_named x)) in
    subst Refused (apart leg.interval other.interval r answer) (inr (4, lit< tt, refl)))
    (λ i _.
    at_check P _ _ _ (inr (5, lit< tt, refl)) (λ _. inl (chain.opened, grind (arith, nat_tests), refl))))))))

-- what a store refuses a question with
version_refusal :
    (k s : ℕ) (o : Option Reading) (f : Fault) → result_and (in_range k s) (ok_or o (query_fault VersionGone k)) ≡ Err f →
    (query_fault VersionGone k ≡ f) ⊎ (query_fault OutOfRange k ≡ f)
version_refusal k s o f e = grind arith

read_replies : (depth p l k : ℕ) (s : Engine) → IsReplied (call.Read p l k) (step the_rules depth (call.Read p l k) s)
read_replies depth p l k s =
    let c : Call = call.Read p l k in
    let P : StepOutcome ℕ → Type 0 = IsReplied c in
    at_check P _ _ _ (inr (0, lit< tt, refl)) (λ _.
    at_open_leg P (s.places p) l _ _ (inr (1, lit< tt, refl)) (λ chain leg _ _.
    at_else P (written_to k leg.writes) _ _ (λ x _. inl (x, refl)) (λ _.
    at_else P (own_reading l k chain.readings) _ _ (λ r _. inl (r.made.reading.value, refl)) (λ _.
    at_check P _ _ _ (inr (2, lit< tt, refl)) (λ _.
    at_else P (answering leg.interval k (s.caches leg.worker)) _ _ (λ e _. inl (e.reading.value, refl)) (λ _.
    at_result P (version_answer s.store k leg.interval.high) _ _
    (λ f answer.
    let Refused : Fault → Type 0 = λ x. CanReply c (refusal_reply (around_store x p l k)) in
    elim (version_refusal k leg.interval.high _ f answer)
    [ inl gone ↦ subst Refused gone (inr (3, lit< tt, refl)) | inr out ↦ subst Refused out (inr (4, lit< tt, refl)) ])
    (λ r _. inl (r.value, refl))))))))

write_replies : (depth p l k x : ℕ) (s : Engine) → IsReplied (call.Write p l k x) (step the_rules depth (call.Write p l k x) s)
write_replies depth p l k x s =
    let P : StepOutcome (Unit {0}) → Type 0 = IsReplied (call.Write p l k x) in
    at_check P _ _ _ (inr (0, lit< tt, refl)) (λ _.
    at_open_leg P (s.places p) l _ _ (inr (1, lit< tt, refl)) (λ chain leg _ _.
    at_check P _ _ _ (inr (2, lit< tt, refl)) (λ _. inl refl)))

-- what a store refuses a commit with
abbrev IsCommitFault : Fault → Type 0
IsCommitFault f =
    (store_fault ClockTooHigh ≡ f) ⊎ ((store_fault NoTimeLeft ≡ f) ⊎ ((store_fault CapacityExceeded ≡ f) ⊎ (store_fault UnfitWrites ≡ f)))

commit_fault :
    (depth clock : ℕ) (ws : List Write) (m : Meaning) (r : Result ℕ Fault) (f : Fault) → r ≡ timestamp_for clock ws m.last → if_room depth ws m r ≡ Err f →
    IsCommitFault f
commit_fault depth clock ws m (Ok t) f is e = inr (inr (inl (grind arith)))
commit_fault depth clock ws m (Err g) f is e = grind arith

handed_replies :
    (depth p l clock r w : ℕ) (chain : Chain) (leg : OpenLeg) (ws : List Write) (s : Engine) →
    IsReplied (call.Commit p l clock r w) (handed_to_store the_rules depth p l clock chain leg ws s)
handed_replies depth p l clock r w chain leg [] s = inl (account_for chain leg 0, refl)
handed_replies depth p l clock r w chain leg (x ∷ xs) s =
    let c : Call = call.Commit p l clock r w in
    let ws : List Write = x ∷ xs in
    at_result (IsReplied c) (commit_answer depth clock ws s.store) _ _
    (λ f answer.
    let Refused : Fault → Type 0 = λ x. CanReply c (refusal_reply (around_store x p l not_named)) in
    elim (commit_fault depth clock ws s.store (timestamp_for clock ws s.store.last) f refl answer) [
      | inl high ↦ subst Refused high (inr (4, lit< tt, refl))
      | inr rest ↦ elim rest [
        | inl none ↦ subst Refused none (inr (5, lit< tt, refl))
        | inr rest ↦ elim rest [
          | inl full ↦ subst Refused full (inr (6, lit< tt, refl))
          | inr unfit ↦ subst Refused unfit (inr (7, lit< tt, refl))
        ]
      ]
    ])
    (λ t _. inl (account_for chain leg t, refl))

commit_replies : (depth p l clock r w : ℕ) (s : Engine) → IsReplied (call.Commit p l clock r w) (step the_rules depth (call.Commit p l clock r w) s)
commit_replies depth p l clock r w s =
    let P : StepOutcome Account → Type 0 = IsReplied (call.Commit p l clock r w) in
    at_check P _ _ _ (inr (0, lit< tt, refl)) (λ _.
    at_open_leg P (s.places p) l _ _ (inr (1, lit< tt, refl)) (λ chain leg _ _.
    at_check P _ _ _ (inr (2, lit< tt, refl)) (λ _.
    at_check P _ _ _ (inr (3, lit< tt, refl)) (λ _. handed_replies depth p l clock r w chain leg leg.writes s))))

abandon_replies : (depth p : ℕ) (s : Engine) → IsReplied (call.Abandon p) (step the_rules depth (call.Abandon p) s)
abandon_replies depth p s =
    let P : StepOutcome (Unit {0}) → Type 0 = IsReplied (call.Abandon p) in
    at_check P _ _ _ (inr (0, lit< tt, refl)) (λ _.
    at_chain P (s.places p) _ _ (inr (1, lit< tt, refl)) (λ _ _. inl refl))

-- every call, in every state
pub replies : (depth : ℕ) (c : Call) (s : Engine) → Replies c (answer_in (step the_rules depth c s))
replies depth (call.Begin p w) s = begin_replies depth p w s
replies depth (call.Hand p l w) s = hand_replies depth p l w s
replies depth (call.Fork p l w v) s = fork_replies depth p l w v s
replies depth (call.Join p l j w) s = join_replies depth p l j w s
replies depth (call.Read p l k) s = read_replies depth p l k s
replies depth (call.Write p l k x) s = write_replies depth p l k x s
replies depth (call.Commit p l clock r w) s = commit_replies depth p l clock r w s
replies depth (call.Abandon p) s = abandon_replies depth p s
replies depth (call.Deliver i) s =
    at_else (IsReplied (call.Deliver i)) (slice_get s.notices.waiting i) _ _ (λ _ _. inl refl) (λ _. inr (0, lit< tt, refl))
replies depth (call.Discard i) s =
    at_else (IsReplied (call.Discard i)) (slice_get s.notices.waiting i) _ _ (λ _ _. inl refl) (λ _. inr (0, lit< tt, refl))
replies depth call.Count s = inl (length s.notices.waiting, s.notices.lost, refl)
replies depth (call.Prune h) s = inl refl

-- In a trace.

-- the number of the store's fault inside a reply, if there is one
abbrev store_number : Reply → Option ℕ
store_number (refused v o) = option_map (λ inner. inner.number) o
store_number r = None

inside_differs :
    (o : Option Fault) (n : ℕ) → ((inner : Fault) → o ≡ Some inner → refusal_number inner.refusal ≡ n → ⊥) →
    option_map (λ v. v.number) (option_map fault_numbers o) ≡ Some n → ⊥
inside_differs None n never is = absurd cc
inside_differs (Some inner) n never is = never inner refl (cc is)

-- a refusal for which the store's fault inside never has this number
has_another_number :
    (f : EngineFault) (n : ℕ) → ((inner : Fault) → f.of_store ≡ Some inner → refusal_number inner.refusal ≡ n → ⊥) → (r : Reply) →
    store_number r ≡ Some n → r ≡ refusal_reply f → ⊥
has_another_number f n never r is same = inside_differs f.of_store n never (ap store_number (sym same) ∙ is)

-- what a call is replied in a trace, where the store refuses as it does in a trace
replied :
    (before : Trace) (c : Call) (q : Result (AnswerTo c) EngineFault) → StoreRefusals (event c q ∷ before) → Replies c q →
    CanReplyInTrace c (reply_of c q)
replied before (call.Begin p w) q refusals is = is
replied before (call.Hand p l w) q refusals is = is
replied before (call.Fork p l w v) q refusals is = is
replied before (call.Join p l j w) q refusals is = is
replied before (call.Read p l k) (Ok x) refusals is = inl (x, refl)
replied before (call.Read p l k) (Err f) refusals is =
    elim is [
      | inl answered ↦ inl answered
      | inr listed ↦ elim (Contains-push_cases (refusals_of (call.Read p l k)) _ _ listed) [
        | inl within ↦ inr within
        | inr out ↦ absurd (has_another_number f 1 (λ inner there one.
            let gone : inner ≡ query_fault VersionGone k = refusals.reads.0 p l k f inner refl there in
            let fifteen : 15 ≡ 1 = sym (ap (λ x. refusal_number x.refusal) gone) ∙ one in
            absurd cc) _ refl out)
      ]
    ]
replied before (call.Write p l k x) q refusals is = is
replied before (call.Commit p l clock r w) (Ok a) refusals is = inl (a, refl)
replied before (call.Commit p l clock r w) (Err f) refusals is =
    elim is [
      | inl answered ↦ inl answered
      | inr listed ↦ elim (Contains-push_cases (refusals_of (call.Commit p l clock r w)) _ _ listed) [
        | inl within ↦ inr within
        | inr out ↦ absurd (has_another_number f 11 (λ inner there eleven.
            let one_of = refusals.commits.0 p l clock r w f inner refl there in
            absurd (grind arith)) _ refl out)
      ]
    ]
replied before (call.Abandon p) q refusals is = is
replied before (call.Deliver i) q refusals is = is
replied before (call.Discard i) q refusals is = is
replied before call.Count q refusals is = is
replied before (call.Prune h) q refusals is = is

pub replies_in_every_trace : RepliesInEveryTrace
replies_in_every_trace store [] by_rules = tt
replies_in_every_trace store (e ∷ before) by_rules =
    let s : Engine = engine_after the_rules store before in
    let c : Call = e.called in
    let by_step : Replies c e.answer = subst (Replies c) (sym by_rules.0) (replies store.depth c s) in
    (replied before c e.answer (refusals_in store (e ∷ before) by_rules) by_step, replies_in_every_trace store before by_rules.1)

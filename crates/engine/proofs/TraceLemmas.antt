-- A call adds an event to each trace that led to the engine, and the calls of a run make a trace.
use Rattle.std.proofs.Common.{◌≡◌, ℕ, List, [], ◌∷◌, ◌++◌, map, reverse, take, Result, refl, sym, ap, subst, ◌∙◌}
use Rattle.std.proofs.lemmas.List.{append_assoc, append-nil, reverse-append}
use Rattle.snapshot.specs.declared.fault.EngineFault.{EngineFault}
use Rattle.store.specs.Meaning.{Meaning, new_store}
use Rattle.engine_model.specs.Engines.{Engine, new_engine}
use Rattle.engine_model.specs.Law.{LedTo}
use Rattle.engine_model.specs.Traces.{event, Trace, NewStore, engine_after, trace_from}
use Rattle.engine_model.specs.Rules.{the_rules}
use Rattle.engine_model.specs.Steps.{answer_in, engine_in, step}
use Rattle.engine_model.specs.declared.calls.Call.{Call}
use Rattle.engine_model.proofs.TraceProofs.{the_rules_lawful}
use Rattle.engine.specs.EngineLaw.{InEveryTrace, ExtendsTrace, answered_in, TraceOfRun, OverNewStore, RunKeepsLaw}
use Rattle.engine.specs.Performing.{engine_after_calls, answers_to, performed}
use Rattle.engine.specs.declared.answer.Answer.{Answer}

-- A new engine.

pub begins :
    (depth : ℕ) (m : Meaning) (s : Engine) → s ≡ new_engine m → OverNewStore depth m (λ store. LedTo the_rules store [] s)
begins depth m s is store of_depth new = record { by_rules = tt; leaves = ap new_engine (sym new) ∙ sym is }

-- One call.

went_on :
    (store : NewStore) (trace : Trace) (c : Call) (s after : Engine) (answered : Result Answer EngineFault) →
    (answered, after) ≡ performed store.depth c s → LedTo the_rules store trace s → ExtendsTrace store trace c answered after
went_on store trace c s after answered stepped led =
    let here = λ (x : Engine). step the_rules store.depth c x in
    record {
      answer = answer_in (here s);
      as_given = ap (λ t. t.0) stepped;
      law = the_rules_lawful.one_more_call store trace s c led;
      leads = record {
        by_rules = (ap (λ x. answer_in (here x)) (sym led.leaves), led.by_rules);
        leaves = ap (λ x. engine_in x (here x)) led.leaves ∙ sym (ap (λ t. t.1) stepped);
      };
    }

pub goes_on :
    (depth : ℕ) (c : Call) (s after : Engine) (answered : Result Answer EngineFault) → (answered, after) ≡ performed depth c s →
    InEveryTrace depth s (λ store trace. ExtendsTrace store trace c answered after)
goes_on depth c s after answered stepped store trace of_depth led =
    went_on store trace c s after answered (stepped ∙ ap (λ d. performed d c s) (sym of_depth)) led

-- A list of calls.

module _ (store : NewStore) where
  left_after_calls :
      (calls : List Call) (s : Engine) (before : Trace) → engine_after the_rules store before ≡ s →
      engine_after the_rules store (trace_from the_rules store s before calls) ≡ engine_after_calls store.depth calls s
  left_after_calls [] s before is = is
  left_after_calls (c ∷ cs) s before is =
      let o = λ (x : Engine). step the_rules store.depth c x in
      left_after_calls cs (engine_in s (o s)) (event c (answer_in (o s)) ∷ before) (ap (λ x. engine_in x (o x)) is)

  answers_of_trace :
      (calls : List Call) (s : Engine) (before : Trace) →
      reverse (map answered_in (trace_from the_rules store s before calls))
      ≡ reverse (map answered_in before) ++ answers_to store.depth calls s
  answers_of_trace [] s before = sym (append-nil (reverse (map answered_in before)))
  answers_of_trace (c ∷ cs) s before =
      let o = step the_rules store.depth c s in
      let e = event c (answer_in o) in
      let rest = answers_to store.depth cs (engine_in s o) in
      answers_of_trace cs (engine_in s o) (e ∷ before)
      ∙ ap (λ xs. xs ++ rest) (reverse-append (answered_in e ∷ []) (map answered_in before))
      ∙ append_assoc (reverse (map answered_in before)) (answered_in e ∷ []) rest

  of_run :
      (calls : List Call) (after : Engine) → after ≡ engine_after_calls store.depth calls (new_engine (new_store store.capacity)) →
      TraceOfRun store calls (answers_to store.depth calls (new_engine (new_store store.capacity))) after
  of_run calls after is =
      let law = the_rules_lawful.by_calls store calls in
      record {
        answered = sym (answers_of_trace calls (new_engine (new_store store.capacity)) []);
        law = law;
        at_each_step = λ n. the_rules_lawful.by_calls store (take n calls);
        leads = record {
          by_rules = law.by_rules;
          leaves = left_after_calls calls (new_engine (new_store store.capacity)) [] refl ∙ sym is;
        };
      }

pub run_keeps_law :
    (depth : ℕ) (calls : List Call) (m : Meaning) (after : Engine) → after ≡ engine_after_calls depth calls (new_engine m) →
    RunKeepsLaw depth calls m after
run_keeps_law depth calls m after is store of_depth new =
    let P : ℕ → Meaning → Type 0 = λ d n. TraceOfRun store calls (answers_to d calls (new_engine n)) after in
    let Q : ℕ → Meaning → Type 0 = λ d n. after ≡ engine_after_calls d calls (new_engine n) in
    let same : Q store.depth (new_store store.capacity) =
    subst (λ d. Q d (new_store store.capacity)) (sym of_depth) (subst (Q depth) new is) in
    subst (P depth) (sym new) (subst (λ d. P d (new_store store.capacity)) of_depth (of_run store calls after same))

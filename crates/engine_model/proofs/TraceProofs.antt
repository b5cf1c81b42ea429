-- Every trace keeps the law: the invariant of a trace is kept by every call, and the law follows from it.
use Rattle.std.proofs.Common.{◌≡◌, ℕ, ◌+◌, ◌≤◌, max, List, [], ◌∷◌, IfSome, Some, None, Ok, Err, Option, Result, sym, refl, ap, ◌∙◌, subst, subst₂, arith}
use Rattle.std.specs.List.{AllByRecursion}
use Rattle.std.proofs.ByRecursion.{All-weaker}
use Rattle.std.proofs.lemmas.Bool.Decides.{nat_tests}
use Rattle.snapshot.specs.Accounts.{Account}
use Rattle.snapshot.specs.declared.fault.EngineFault.{EngineFault}
use Rattle.snapshot.specs.declared.fault.Refusal.TheVariants.{VersionGone}
use Rattle.store.specs.Laws.{version_read}
use Rattle.store.specs.Meaning.{Meaning, Issuing, issued}
use Rattle.store.proofs.Standing.{new_stands, issued_laws}
use Rattle.engine_model.specs.Engines.{OpenLeg, running, Chain, Engine}
use Rattle.engine_model.specs.Law.{ValueAt, TrueOf, AccountLaw, GoneLaw, leg_in, leg_at, TraceLaw, LedTo, KeepTraceLaw, RestsOnLaws, TimestampsInEveryTrace}
use Rattle.engine_model.specs.Traces.{Event, event, Trace, AtEach, NewStore, ByRules, engine_after, trace_from, trace_of, history_by, history_with, history_of, store_by, store_with, store_after, ObservedChain, ValueRead, observed_with, observed_of}
use Rattle.engine_model.specs.RuleLaws.{PartsWithLaws, rules_of}
use Rattle.engine_model.specs.Rules.{Rules, the_rules, the_caches, the_write_sets, the_limits}
use Rattle.engine_model.specs.Steps.{AnswerTo, StepOutcome, refused, accepted, answer_in, engine_in, step}
use Rattle.engine_model.specs.declared.calls.Call.{Call}
use Rattle.engine_model.specs.declared.calls.Call.TheVariants as call
use Rattle.engine_model.specs.declared.limits.ChainLimits.{ChainLimits}
use Rattle.engine_model.proofs.CacheProofs.{the_caches_lawful}
use Rattle.engine_model.proofs.CallProofs.{After, begin_keeps, hand_keeps, fork_keeps, join_keeps, read_keeps, write_keeps, abandon_keeps, deliver_keeps, discard_keeps, prune_keeps}
use Rattle.engine_model.proofs.CommitProofs.{backed_on, true_readings_on, IfAccepted, AccountStands, commit_keeps}
use Rattle.engine_model.proofs.GoneProofs.{read_gone}
use Rattle.engine_model.proofs.Legs.{leg_sound}
use Rattle.engine_model.proofs.Readings.{History, TrueReading, GoesOn, same_goes_on}
use Rattle.engine_model.proofs.Sound.{ChainSound, Sound, Backed, Confirmed, TraceSound}
use Rattle.engine_model.proofs.WriteSetProofs.{the_write_sets_lawful, the_limits_lawful}

-- What is so of each event.

at_each_weaker :
    (P Q : Event → Trace → Type 0) → ((e : Event) (before : Trace) → P e before → Q e before) → (trace : Trace) → AtEach P trace →
    AtEach Q trace
at_each_weaker P Q on [] h = tt
at_each_weaker P Q on (e ∷ before) h = (on e before h.0, at_each_weaker P Q on before h.1)

-- an account stays confirmed where the history goes on
confirmed_on :
    (timestamps : Issuing) (h : History) (last : ℕ) (h' : History) (last' : ℕ) → GoesOn h last h' last' → (before : History) (last_before : ℕ) (observed : ObservedChain) (l clock : ℕ) (a : Account) →
    Confirmed timestamps h last before last_before observed l clock a → Confirmed timestamps h' last' before last_before observed l clock a
confirmed_on timestamps h last h' last' on before last_before observed l clock a c =
    record {
      some = c.some;
      backed = All-weaker (Backed h last a.low a.high) (Backed h' last' a.low a.high) (backed_on h last h' last' on a.low a.high) observed.outside c.backed;
      its_readings = c.its_readings;
      true_readings = true_readings_on h last h' last' on a.readings c.true_readings;
      its_writes = c.its_writes;
      its_timestamp = c.its_timestamp;
      after_history = c.after_history;
      after_promises = c.after_promises;
      for_the_book = c.for_the_book;
    }

-- what is so of an accepted answer is so of the one that was given
if_accepted :
    {X : Type 0} (P : X → Engine → Type 0) (s : Engine) (o : StepOutcome X) (x : X) → Ok x ≡ answer_in o → IfAccepted P o →
    P x (engine_in s o)
if_accepted P s (refused f) x e h = absurd (grind arith)
if_accepted P s (accepted y s') x e h = let same : x ≡ y = cc in subst (λ z. P z s') (sym same) h

-- The history goes on with every call: only a commit adds to it.

module _ (h : History) (m : Meaning) (depth : ℕ) where
  -- if an event is an accepted commit, the history goes on with what it adds
  abbrev OnCommit : Event → Type 0
  OnCommit e =
      (p l clock r w : ℕ) (a : Account) → e ≡ event (call.Commit p l clock r w) (Ok a) →
      GoesOn h m.last (history_by (call.Commit p l clock r w) a h) (store_by depth (call.Commit p l clock r w) a m).last

  on_by : (c : Call) (x : AnswerTo c) → OnCommit (event c (Ok x)) → GoesOn h m.last (history_by c x h) (store_by depth c x m).last
  on_by (call.Begin p w) x on = same_goes_on h m.last
  on_by (call.Hand p l w) x on = same_goes_on h m.last
  on_by (call.Fork p l w v) x on = same_goes_on h m.last
  on_by (call.Join p l j w) x on = same_goes_on h m.last
  on_by (call.Read p l k) x on = same_goes_on h m.last
  on_by (call.Write p l k v) x on = same_goes_on h m.last
  on_by (call.Commit p l clock r w) a on = on p l clock r w a refl
  on_by (call.Abandon p) x on = same_goes_on h m.last
  on_by (call.Deliver i) x on = same_goes_on h m.last
  on_by (call.Discard i) x on = same_goes_on h m.last
  on_by call.Count x on = same_goes_on h m.last
  on_by (call.Prune n) x on = same_goes_on h m.last

  on_with :
      (c : Call) (answer : Result (AnswerTo c) EngineFault) → OnCommit (event c answer) →
      GoesOn h m.last (history_with c answer h) (store_with depth c answer m).last
  on_with c (Ok x) on = on_by c x on
  on_with c (Err f) on = same_goes_on h m.last

-- Every call keeps the invariant.

module _ (parts : PartsWithLaws) (store : NewStore) where
  abbrev rules : Rules
  rules = rules_of parts

  abbrev limits : ChainLimits
  limits = parts.limits

  abbrev depth : ℕ
  depth = store.depth

  -- by each call's own lemma
  call_keeps :
      (h : History) (observed : ℕ → ObservedChain) (m : Meaning) (s : Engine) → Sound store limits h observed m s → (c : Call) →
      After limits store h observed m s c (step rules depth c s)
  call_keeps h observed m s sound (call.Begin p w) = begin_keeps parts store h observed m s sound p w
  call_keeps h observed m s sound (call.Hand p l w) = hand_keeps parts store h observed m s sound p l w
  call_keeps h observed m s sound (call.Fork p l w v) = fork_keeps parts store h observed m s sound p l w v
  call_keeps h observed m s sound (call.Join p l j w) = join_keeps parts store h observed m s sound p l j w
  call_keeps h observed m s sound (call.Read p l k) = read_keeps parts store h observed m s sound p l k
  call_keeps h observed m s sound (call.Write p l k x) = write_keeps parts store h observed m s sound p l k x
  call_keeps h observed m s sound (call.Commit p l clock r w) = (commit_keeps parts store h observed m s sound p l clock r w).0
  call_keeps h observed m s sound (call.Abandon p) = abandon_keeps parts store h observed m s sound p
  call_keeps h observed m s sound (call.Deliver i) = deliver_keeps parts store h observed m s sound i
  call_keeps h observed m s sound (call.Discard i) = discard_keeps parts store h observed m s sound i
  call_keeps h observed m s sound call.Count = sound
  call_keeps h observed m s sound (call.Prune n) = prune_keeps parts store h observed m s sound n

  abbrev last_after : Trace → ℕ
  last_after trace = (engine_after rules store trace).store.last

  module _ (trace : Trace) (before : TraceSound rules limits store trace) (e : Event) (by_rules : e.answer ≡ answer_in (step rules depth e.called (engine_after rules store trace))) where
    abbrev s : Engine
    s = engine_after rules store trace

    -- the engine is sound after the event
    engine_on : Sound store limits (history_of (e ∷ trace)) (observed_of (e ∷ trace)) (store_after store (e ∷ trace)) (engine_after rules store (e ∷ trace))
    engine_on =
        let P : Result (AnswerTo e.called) EngineFault → Type 0 = λ answer.
        Sound store limits (history_with e.called answer (history_of trace)) (observed_with e.called answer (observed_of trace))
        (store_with depth e.called answer (store_after store trace)) (engine_after rules store (e ∷ trace)) in
        subst P (sym by_rules) (call_keeps (history_of trace) (observed_of trace) (store_after store trace) s before.engine e.called)

    abbrev h : History
    h = history_of trace

    abbrev m : Meaning
    m = store_after store trace

    -- a commit's account is confirmed when it is committed
    account_new :
        (p l clock r w : ℕ) (a : Account) → e ≡ event (call.Commit p l clock r w) (Ok a) →
        AccountStands parts store h (observed_of trace) m s before.engine p l clock a (engine_after rules store (e ∷ trace))
    account_new p l clock r w a is =
        let StandsAt : Engine → Type 0 = AccountStands parts store h (observed_of trace) m s before.engine p l clock a in
        let Q : Event → Type 0 = λ x. x.answer ≡ answer_in (step rules depth x.called s) → StandsAt (engine_in s (step rules depth x.called s)) in
        let kept = commit_keeps parts store h (observed_of trace) m s before.engine p l clock r w in
        subst Q (sym is) (λ d. if_accepted (AccountStands parts store h (observed_of trace) m s before.engine p l clock) s (step rules depth (call.Commit p l clock r w) s) a d kept.1) by_rules

    confirmed_new :
        (p l clock r w : ℕ) (a : Account) → e ≡ event (call.Commit p l clock r w) (Ok a) →
        Confirmed rules.timestamps (history_of (e ∷ trace)) (last_after (e ∷ trace)) h m.last (observed_of trace p) l clock a
    confirmed_new p l clock r w a is =
        let Q : Event → Type 0 = λ x. Confirmed rules.timestamps (history_with x.called x.answer h) (last_after (e ∷ trace)) h m.last (observed_of trace p) l clock a in
        subst Q (sym is) (account_new p l clock r w a is).0

    -- the history goes on with the event
    history_on : GoesOn h (last_after trace) (history_of (e ∷ trace)) (last_after (e ∷ trace))
    history_on =
        let last_now : last_after trace ≡ m.last = ap (λ n. n.last) before.engine.same_store in
        let last_then : last_after (e ∷ trace) ≡ (store_with depth e.called e.answer m).last = ap (λ n. n.last) engine_on.same_store in
        let on_commit : OnCommit h m depth e = λ p l clock r w a is.
        let Q : ℕ → ℕ → Type 0 = λ x y. GoesOn h x (history_by (call.Commit p l clock r w) a h) y in
        let last_of : last_after (e ∷ trace) ≡ (store_by depth (call.Commit p l clock r w) a m).last = last_then ∙ ap (λ x. (store_with depth x.called x.answer m).last) is in
        subst₂ Q last_now last_of (account_new p l clock r w a is).1 in
        let R : ℕ → ℕ → Type 0 = λ x y. GoesOn h x (history_of (e ∷ trace)) y in
        subst₂ R (sym last_now) (sym last_then) (on_with h m depth e.called e.answer on_commit)

    -- a read that is refused as gone keeps its law
    gone_new :
        (p l k : ℕ) (f : EngineFault) → e ≡ event (call.Read p l k) (Err f) → f.fault.refusal ≡ VersionGone →
        GoneLaw h m.kept (leg_at s p l) k
    gone_new p l k f is gone =
        let Q : Event → Type 0 = λ x. x.answer ≡ answer_in (step rules depth x.called s) in
        read_gone parts store h (observed_of trace) m s before.engine p l k f (subst Q is by_rules) gone

    -- so the invariant is kept
    trace_on : TraceSound rules limits store (e ∷ trace)
    trace_on =
        record {
          by_rules = (by_rules, before.by_rules);
          engine = engine_on;
          accounts = (
            confirmed_new,
            at_each_weaker _ _
                (λ e' earlier confirmed p l clock r w a is.
                confirmed_on rules.timestamps h (last_after trace) (history_of (e ∷ trace)) (last_after (e ∷ trace)) history_on (history_of earlier) (store_after store earlier).last (observed_of earlier p) l clock a (confirmed p l clock r w a is))
                trace before.accounts,
          );
          gone = (gone_new, before.gone);
        }

  -- a new engine over the new store
  trace_new : TraceSound rules limits store []
  trace_new =
      record {
        by_rules = tt;
        engine = record {
          same_store = refl;
          stands = new_stands depth store.capacity store.not_none store.room;
          before_end = omega arith;
          caches = λ w. tt;
          notices = tt;
          chains = λ p. tt;
        };
        accounts = tt;
        gone = tt;
      }

  -- any trace that follows the rules
  pub by_rules_sound : (trace : Trace) → ByRules rules store trace → TraceSound rules limits store trace
  by_rules_sound [] by_rules = trace_new
  by_rules_sound (e ∷ before) by_rules = trace_on before (by_rules_sound before by_rules.1) e by_rules.0

  -- The law.

  -- at every time of the account's interval the history holds what was read
  values_held :
      (h : History) (last : ℕ) (a : Account) (xs : List ValueRead) → AllByRecursion (Backed h last a.low a.high) xs →
      (u : ℕ) → a.low ≤ u → u ≤ a.high → AllByRecursion (λ r. ValueAt u r.value (h r.key)) xs
  values_held h last a xs backed u from to =
      All-weaker (Backed h last a.low a.high) (λ r. ValueAt u r.value (h r.key))
      (λ r b. (version_read b.reading, b.is_true.current u (omega (arith, b.from_low)) (omega (arith, b.to_high)), b.same_value))
      xs backed

  account_law :
      (h : History) (last : ℕ) (before : Trace) (p l clock : ℕ) (a : Account) →
      Confirmed rules.timestamps h last (history_of before) (store_after store before).last (observed_of before p) l clock a →
      AccountLaw rules store h before p l clock a
  account_law h last before p l clock a c =
      record {
        some = c.some;
        agrees = λ u lies. values_held h last a (observed_of before p).outside c.backed u lies.0 lies.1;
        its_readings = c.its_readings;
        true_readings = All-weaker (λ r. TrueReading h last r.key r.reading) (TrueOf h) (λ r t u lies. t.current u lies.0 lies.1) a.readings c.true_readings;
        its_writes = c.its_writes;
        its_timestamp = c.its_timestamp;
        after_history = c.after_history;
        after_promises = c.after_promises;
        for_the_book = c.for_the_book;
      }

  -- no open leg has an empty interval
  leg_some :
      (h : History) (last : ℕ) (observed : ObservedChain) (c : Option Chain) (l : ℕ) (leg : OpenLeg) →
      IfSome c (ChainSound h last limits observed) → leg_in c l ≡ running leg → leg.interval.low ≤ leg.interval.high
  leg_some h last observed None l leg sound e = absurd (grind arith)
  leg_some h last observed (Some c) l leg sound e = (leg_sound last limits observed c sound.legs l leg e).times.some

  pub law_from_sound : (trace : Trace) → TraceSound rules limits store trace → TraceLaw rules store trace
  law_from_sound trace sound =
      record {
        by_rules = sound.by_rules;
        commits = at_each_weaker _ _ (λ e before confirmed p l clock r w a is. account_law (history_of trace) (last_after trace) before p l clock a (confirmed p l clock r w a is)) trace sound.accounts;
        reads = sound.gone;
        intervals = λ p l leg e. leg_some (history_of trace) (last_after trace) (observed_of trace p) ((engine_after rules store trace).places p) l leg (sound.engine.chains p) e;
      }

  -- a trace by its calls follows the rules
  pub calls_by_rules :
      (before : Trace) (calls : List Call) → ByRules rules store before →
      ByRules rules store (trace_from rules store (engine_after rules store before) before calls)
  calls_by_rules before [] by_rules = by_rules
  calls_by_rules before (c ∷ cs) by_rules = calls_by_rules (event c (answer_in (step rules depth c (engine_after rules store before))) ∷ before) cs (refl, by_rules)

  one_more :
      (trace : Trace) (s : Engine) (c : Call) → LedTo rules store trace s →
      TraceLaw rules store (event c (answer_in (step rules depth c s)) ∷ trace)
  one_more trace s c led =
      let P : Engine → Type 0 = λ x. TraceLaw rules store (event c (answer_in (step rules depth c x)) ∷ trace) in
      subst P led.leaves (law_from_sound _ (by_rules_sound _ (refl, led.by_rules)))

  calls_lawful : (calls : List Call) → TraceLaw rules store (trace_of rules store calls)
  calls_lawful calls = law_from_sound _ (by_rules_sound _ (calls_by_rules [] calls tt))

-- The law rests on the laws of its parts, and those that hold keep them.

pub rests_on_laws : RestsOnLaws
rests_on_laws parts =
    record { by_calls = λ store calls. calls_lawful parts store calls; one_more_call = λ store. one_more parts store }

abbrev pub the_parts : PartsWithLaws
the_parts =
    record {
      caches = the_caches;
      cache_laws = the_caches_lawful;
      timestamps = issued;
      timestamp_laws = issued_laws;
      write_sets = the_write_sets;
      write_set_laws = the_write_sets_lawful;
      limits = the_limits;
      limit_laws = the_limits_lawful;
    }

pub the_rules_lawful : KeepTraceLaw the_rules
the_rules_lawful = rests_on_laws the_parts

-- Timestamps by the rules in force.

pub issued_is : (clock last t : ℕ) → issued clock last ≡ Ok t → t ≡ max clock (last + 1)
issued_is clock last t e = grind (arith, nat_tests)

pub timestamps_in_every_trace : TimestampsInEveryTrace
timestamps_in_every_trace store trace by_rules =
    at_each_weaker _ _ (λ e before law p l clock r w a is some. issued_is clock (store_after store before).last a.timestamp ((law p l clock r w a is).its_timestamp some))
    trace (law_from_sound the_parts store trace (by_rules_sound the_parts store trace by_rules)).commits

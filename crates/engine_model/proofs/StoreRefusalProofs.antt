-- What a store refuses an engine's calls with: the key of a read is one and the high end of an interval a time, and a write set
-- that is not empty is fit.
use Rattle.std.proofs.Common.{◌≡◌, ℕ, ◌≤◌, true, List, [], ◌∷◌, length, Some, Ok, Err, Option, Result, subst, arith}
use Rattle.std.specs.Option.{ok_or}
use Rattle.std.specs.Result.{result_and}
use Rattle.std.proofs.lemmas.Bool.{and_parts, and_from, le-leb}
use Rattle.snapshot.specs.Limits.{is_key, is_time}
use Rattle.snapshot.specs.declared.account.Reading.{Reading}
use Rattle.snapshot.specs.declared.account.Write.{Write}
use Rattle.snapshot.specs.declared.fault.EngineFault.{EngineFault}
use Rattle.snapshot.specs.declared.fault.Fault.{Fault}
use Rattle.snapshot.specs.declared.fault.Refusal.TheVariants.{VersionGone}
use Rattle.store.specs.Meaning.{Meaning, issued, in_range, query_fault, fit_writes, timestamp_for, if_room}
use Rattle.engine_model.specs.Engines.{OpenLeg, Chain, Engine}
use Rattle.engine_model.specs.Traces.{Event, Trace, NewStore, ByRules, ObservedChain, engine_after, history_of, store_after, observed_of, trace_of}
use Rattle.engine_model.specs.Rules.{the_rules, the_limits}
use Rattle.engine_model.specs.Steps.{StepOutcome, answer_in, step, handed_to_store}
use Rattle.engine_model.specs.StoreRefusals.{CommitRefusal, StoreRefusals, StoreRefusalsInEveryTrace}
use Rattle.engine_model.specs.declared.calls.Call.TheVariants as call
use Rattle.engine_model.proofs.Changes.{chain_at}
use Rattle.engine_model.proofs.Legs.{leg_sound}
use Rattle.engine_model.proofs.TraceProofs.{the_parts, by_rules_sound, calls_by_rules}
use Rattle.engine_model.proofs.Outcomes.{IfRefused, if_refused, at_check, at_open_leg, at_result, at_else}
use Rattle.engine_model.proofs.Readings.{History}
use Rattle.engine_model.proofs.Sound.{WritesSound, Sound}

-- What a store answers.

in_range_gone :
    (k s : ℕ) (o : Option Reading) (f : Fault) → is_key k ≡ true → is_time s ≡ true →
    result_and (in_range k s) (ok_or o (query_fault VersionGone k)) ≡ Err f → f ≡ query_fault VersionGone k
in_range_gone k s o f key time e = grind arith

issued_refusal : (clock last : ℕ) (f : Fault) → issued clock last ≡ Err f → CommitRefusal f.refusal
issued_refusal clock last f e = grind arith

fit_refusal : (clock : ℕ) (ws : List Write) (last : ℕ) (f : Fault) → fit_writes ws ≡ true → timestamp_for clock ws last ≡ Err f → CommitRefusal f.refusal
fit_refusal clock ws last f fit e = issued_refusal clock last f (grind arith)

room_refusal :
    (depth : ℕ) (ws : List Write) (m : Meaning) (r : Result ℕ Fault) (f : Fault) → ((g : Fault) → r ≡ Err g → CommitRefusal g.refusal) →
    if_room depth ws m r ≡ Err f → CommitRefusal f.refusal
room_refusal depth ws m (Ok t) f by e = grind arith
room_refusal depth ws m (Err g) f by e = by f e

-- a write set that is not empty is fit for a store
sound_fit : (written : ℕ → Option ℕ) (ws : List Write) → 1 ≤ length ws → WritesSound the_limits written ws → fit_writes ws ≡ true
sound_fit written ws some sound = and_from _ _ (and_from _ _ (le-leb _ _ some) (le-leb _ _ sound.few)) sound.rising

-- A call that is refused.

-- what is so of the store's fault inside a fault, if there is one
abbrev Inside : (Fault → Type 0) → EngineFault → Type 0
Inside D f = (inner : Fault) → f.of_store ≡ Some inner → D inner

module _
    (store : NewStore) (h : History) (observed : ℕ → ObservedChain) (m : Meaning) (s : Engine) (sound : Sound store the_limits h observed m s)
  where
    read_refusal : (p l k : ℕ) → IfRefused (Inside (λ inner. inner ≡ query_fault VersionGone k)) (step the_rules store.depth (call.Read p l k) s)
    read_refusal p l k =
        let D : Fault → Type 0 = λ inner. inner ≡ query_fault VersionGone k in
        let P : StepOutcome ℕ → Type 0 = IfRefused (Inside D) in
        at_check P _ _ _ (λ inner e. absurd (grind arith)) (λ range.
        at_open_leg P _ l _ _ (λ inner e. absurd (grind arith)) (λ chain leg here is_open.
        at_else P _ _ _ (λ _ _. tt) (λ _.
        at_else P _ _ _ (λ _ _. tt) (λ _.
        at_check P _ _ _ (λ inner e. absurd (grind arith)) (λ few.
        at_else P _ _ _ (λ _ _. tt) (λ _.
        at_result P _ _ _
        (λ fault answer inner e.
        let of_leg = leg_sound s.store.last the_limits (observed p) chain (chain_at store the_limits h observed m s sound p chain here).legs l leg is_open in
        let gone : fault ≡ query_fault VersionGone k = in_range_gone k leg.interval.high _ fault (and_parts _ _ range).1 (le-leb _ _ of_leg.times.to_open_end) answer in
        let same : fault ≡ inner = cc in
        subst D same gone)
        (λ r _. tt)))))))

    handed_refusal :
        (p l clock : ℕ) (chain : Chain) (leg : OpenLeg) (ws : List Write) → WritesSound the_limits ((observed p).legs l).written ws →
        IfRefused (Inside (λ inner. CommitRefusal inner.refusal)) (handed_to_store the_rules store.depth p l clock chain leg ws s)
    handed_refusal p l clock chain leg [] writes = tt
    handed_refusal p l clock chain leg (x ∷ xs) writes =
        let D : Fault → Type 0 = λ inner. CommitRefusal inner.refusal in
        let ws : List Write = x ∷ xs in
        at_result (IfRefused (Inside D)) _ _ _
        (λ fault answer inner e.
        let fit = sound_fit ((observed p).legs l).written ws (omega arith) writes in
        let by : D fault = room_refusal store.depth ws s.store (timestamp_for clock ws s.store.last) fault (λ g. fit_refusal clock ws s.store.last g fit) answer in
        let same : fault ≡ inner = cc in
        subst D same by)
        (λ t _. tt)

    commit_refusal :
        (p l clock r w : ℕ) → IfRefused (Inside (λ inner. CommitRefusal inner.refusal)) (step the_rules store.depth (call.Commit p l clock r w) s)
    commit_refusal p l clock r w =
        let P : StepOutcome _ → Type 0 = IfRefused (Inside (λ inner. CommitRefusal inner.refusal)) in
        at_check P _ _ _ (λ inner e. absurd (grind arith)) (λ range.
        at_open_leg P _ l _ _ (λ inner e. absurd (grind arith)) (λ chain leg here is_open.
        at_check P _ _ _ (λ inner e. absurd (grind arith)) (λ only.
        at_check P _ _ _ (λ inner e. absurd (grind arith)) (λ room.
        handed_refusal p l clock chain leg leg.writes
        (leg_sound s.store.last the_limits (observed p) chain (chain_at store the_limits h observed m s sound p chain here).legs l leg is_open).writes))))

-- A trace.

pub refusals_in : (store : NewStore) (trace : Trace) → ByRules the_rules store trace → StoreRefusals trace
refusals_in store [] by_rules = record { reads = tt; commits = tt }
refusals_in store (e ∷ before) by_rules =
    let earlier = refusals_in store before by_rules.1 in
    let s : Engine = engine_after the_rules store before in
    let sound = (by_rules_sound the_parts store before by_rules.1).engine in
    record {
      reads = (
        λ p l k f inner is of_store.
            let ByStep : Event → Type 0 = λ x. x.answer ≡ answer_in (step the_rules store.depth x.called s) in
            if_refused _ (step the_rules store.depth (call.Read p l k) s) f (subst ByStep is by_rules.0)
            (read_refusal store (history_of before) (observed_of before) (store_after store before) s sound p l k) inner of_store,
        earlier.reads,
      );
      commits = (
        λ p l clock r w f inner is of_store.
            let ByStep : Event → Type 0 = λ x. x.answer ≡ answer_in (step the_rules store.depth x.called s) in
            if_refused _ (step the_rules store.depth (call.Commit p l clock r w) s) f (subst ByStep is by_rules.0)
            (commit_refusal store (history_of before) (observed_of before) (store_after store before) s sound p l clock r w) inner of_store,
        earlier.commits,
      );
    }

pub refusals_in_every_trace : StoreRefusalsInEveryTrace
refusals_in_every_trace store calls = refusals_in store (trace_of the_rules store calls) (calls_by_rules the_parts store [] calls tt)

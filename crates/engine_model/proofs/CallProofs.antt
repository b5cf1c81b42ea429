-- Every call but commit keeps the invariant of a trace.
use Rattle.std.proofs.Common.{◌≡◌, ℕ, suc, ◌<◌, ◌≤◌, min, max, true, if◌then◌else◌, ◌&&◌, ◌==◌, nat_le, List, [], ◌∷◌, length, is_some, Some, None, Ok, Option, sym, refl, ap, ◌∙◌, subst, ⊎_elim, arith}
use Rattle.std.specs.Option.{option_or}
use Rattle.std.specs.List.{ContainsAt as Has, AllByRecursion}
use Rattle.std.proofs.ByRecursion.{all-has, All-weaker, has_append_right}
use Rattle.std.proofs.lemmas.Bool.{and_parts, and_from, cond_both, eqb-true, leb-true, ltb-true, le-leb}
use Rattle.snapshot.specs.Intervals.{from_to, meets_reading, joined_or_refused}
use Rattle.snapshot.specs.Limits.{is_key}
use Rattle.snapshot.specs.Limits as limit
use Rattle.snapshot.specs.declared.account.Reading.{Reading}
use Rattle.snapshot.specs.declared.account.Write.{Write}
use Rattle.snapshot.specs.declared.interval.Interval.{Interval}
use Rattle.store.specs.Meaning.{Meaning, after_prune, written_to}
use Rattle.store.proofs.Standing.{prune_stands}
use Rattle.engine_model.specs.Caches.{Cache, entry_of}
use Rattle.engine_model.specs.Engines.{OpenLeg, running, on_worker, Chain, new_chain, Engine}
use Rattle.engine_model.specs.Traces.{NewStore, ObservedLeg, observed_leg, ObservedChain, nothing_observed, leg_opened, history_with, store_with, observed_with}
use Rattle.engine_model.specs.RuleLaws.{AddedTo, WidenedBy, AfterNotice, PartsWithLaws, rules_of}
use Rattle.engine_model.specs.Rules.{Rules}
use Rattle.engine_model.specs.Steps.{AnswerTo, StepOutcome, answer_in, engine_in, step, own_reading, answered_by}
use Rattle.engine_model.specs.Updates.{with_at}
use Rattle.engine_model.specs.declared.calls.Call.{Call}
use Rattle.engine_model.specs.declared.calls.Call.TheVariants as call
use Rattle.engine_model.specs.declared.limits.ChainLimits.{ChainLimits}
use Rattle.engine_model.specs.declared.records.CacheEntry.{CacheEntry}
use Rattle.engine_model.specs.declared.records.LegReading.{LegReading}
use Rattle.engine_model.specs.declared.records.Notice.{Notice}
use Rattle.engine_model.proofs.Changes.{chain_at, place_sound, free_sound, more_observed, cache_sound}
use Rattle.engine_model.proofs.FirstReads.{read_where_own}
use Rattle.engine_model.proofs.Legs.{NoWider, leg_sound, on_worker_lem, also_open, hand_sound, write_leg_sound, join_sound, read_again, read_sound, begin_sound}
use Rattle.engine_model.proofs.NoticeProofs.{at_position, all_removed}
use Rattle.engine_model.proofs.Outcomes.{at_check, at_chain, at_open, at_open_leg, at_free, at_result, at_else}
use Rattle.engine_model.proofs.Readings.{History, TrueReading, AllTrue, AnsweredAt, widened_true, store_true}
use Rattle.engine_model.proofs.Sound.{TimesSound, WritesSound, LegSound, Sound}

-- the engine is sound after what comes of a call
abbrev pub After :
    (limits : ChainLimits) (store : NewStore) (h : History) (observed : ℕ → ObservedChain) (m : Meaning) (s : Engine) (c : Call) →
    StepOutcome (AnswerTo c) → Type 0
After limits store h observed m s c o =
    Sound store limits (history_with c (answer_in o) h) (observed_with c (answer_in o) observed) (store_with store.depth c (answer_in o) m) (engine_in s o)

-- a join that is not refused leaves the times of both
record Joined (i j n : Interval) : Type 0 where
  low : n.low ≡ max i.low j.low
  high : n.high ≡ min i.high j.high
  some : n.low ≤ n.high

joined_times : (i j n : Interval) → joined_or_refused i j ≡ Ok n → Joined i j n
joined_times i j n =
    cond_both (nat_le (max i.low j.low) (min i.high j.high)) _ _ (λ r. r ≡ Ok n → Joined i j n)
    (λ le e.
    let same : from_to (max i.low j.low) (min i.high j.high) ≡ n = cc in
    let low : n.low ≡ max i.low j.low = sym (ap (λ x. x.low) same) in
    let high : n.high ≡ min i.high j.high = sym (ap (λ x. x.high) same) in
    record { low = low; high = high; some = omega (arith, leb-true _ _ le) })
    (λ _ e. absurd (grind arith))

-- a leg's own reading is one of the chain's, of that key
own_there : (l k : ℕ) (rs : List LegReading) (r : LegReading) → own_reading l k rs ≡ Some r → Has rs r × (r.made.key ≡ k)
own_there l k [] r = λ e. absurd (grind arith)
own_there l k (x ∷ xs) r =
    cond_both (x.leg == l && x.made.key == k) _ _ (λ o. o ≡ Some r → Has (x ∷ xs) r × (r.made.key ≡ k))
    (λ t e.
    let same : x ≡ r = cc in
    let first : 0 < length (x ∷ xs) = omega arith in
    let key : x.made.key ≡ k = eqb-true _ _ (and_parts _ _ t).1 in
    ((0, first, λ _. same), sym (ap (λ y. y.made.key) same) ∙ key))
    (λ _ e. let rest = own_there l k xs r e in (has_append_right (x ∷ []) xs r rest.0, rest.1))

module _
    (parts : PartsWithLaws)
    (store : NewStore) (h : History) (observed : ℕ → ObservedChain) (m : Meaning) (s : Engine) (sound : Sound store parts.limits h observed m s)
  where
    abbrev rules : Rules
    rules = rules_of parts

    abbrev limits : ChainLimits
    limits = parts.limits

    abbrev last : ℕ
    last = s.store.last

    abbrev Kept : (c : Call) → StepOutcome (AnswerTo c) → Type 0
    Kept c o = After limits store h observed m s c o

    pub begin_keeps : (p w : ℕ) → Kept (call.Begin p w) (step rules store.depth (call.Begin p w) s)
    begin_keeps p w =
        let P : StepOutcome ℕ → Type 0 = Kept (call.Begin p w) in
        at_check P _ _ _ sound (λ range.
        at_free P _ _ _ sound (λ free.
        place_sound store limits h observed m s sound p (leg_opened 0 w (λ k. None) nothing_observed) (Some (new_chain w)) (begin_sound h last limits w (and_parts _ _ range).1)))

    pub hand_keeps : (p l w : ℕ) → Kept (call.Hand p l w) (step rules store.depth (call.Hand p l w) s)
    hand_keeps p l w =
        let P : StepOutcome ℕ → Type 0 = Kept (call.Hand p l w) in
        at_check P _ _ _ sound (λ range.
        at_open_leg P _ l _ _ sound (λ chain leg here is_open.
        at_check P _ _ _ sound (λ room.
        place_sound store limits h observed m s sound p _ (Some _) (hand_sound h last limits (observed p) chain (chain_at store limits h observed m s sound p chain here) l leg is_open w (and_parts _ _ range).1 (ltb-true _ _ room)))))

    pub fork_keeps : (p l w v : ℕ) → Kept (call.Fork p l w v) (step rules store.depth (call.Fork p l w v) s)
    fork_keeps p l w v =
        let P : StepOutcome (ℕ × ℕ) → Type 0 = Kept (call.Fork p l w v) in
        at_check P _ _ _ sound (λ range.
        at_open_leg P _ l _ _ sound (λ chain leg here is_open.
        at_check P _ _ _ sound (λ room.
        let lt : suc chain.opened < limit.leg_count = ltb-true _ _ room in
        let before = chain_at store limits h observed m s sound p chain here in
        let workers = and_parts _ _ range in
        let first = hand_sound h last limits (observed p) chain before l leg is_open w (and_parts _ _ workers.0).1 (omega arith) in
        place_sound store limits h observed m s sound p _ (Some _) (also_open h last limits _ _ first (on_worker v leg) v ((observed p).legs l).written lt (on_worker_lem h last limits (observed p) chain before l leg is_open v workers.1)))))

    pub join_keeps : (p l j w : ℕ) → Kept (call.Join p l j w) (step rules store.depth (call.Join p l j w) s)
    join_keeps p l j w =
        let P : StepOutcome ℕ → Type 0 = Kept (call.Join p l j w) in
        at_check P _ _ _ sound (λ range.
        at_open_leg P _ l _ _ sound (λ chain leg here is_open.
        at_open P _ _ _ sound (λ other other_open.
        at_check P _ _ _ sound (λ apart.
        at_check P _ _ _ sound (λ room.
        at_result P _ _ _ (λ _ _. sound) (λ i times.
        at_check P _ _ _ sound (λ few.
        let both = joined_times leg.interval other.interval i times in
        let before = chain_at store limits h observed m s sound p chain here in
        let first = leg_sound last limits (observed p) chain before.legs l leg is_open in
        let second = leg_sound last limits (observed p) chain before.legs j other other_open in
        let ws : List Write = parts.write_sets.after_join leg.writes other.writes in
        let new : OpenLeg = record { worker = w; interval = i; writes = ws } in
        let written : ℕ → Option ℕ = λ k. option_or (((observed p).legs j).written k) (((observed p).legs l).written k) in
        let times : TimesSound last chain.readings i = record {
          some = both.some;
          to_open_end = omega (arith, both.high, first.times.to_open_end);
          from_known = omega (arith, both.low, first.times.from_known, second.times.from_known);
          low_read = omega (arith, both.low, first.times.low_read, second.times.low_read);
          high_read = omega (arith, both.high, first.times.high_read, second.times.high_read);
        } in
        let sound_writes : WritesSound limits written ws = record {
          rising = parts.write_set_laws.join_rises leg.writes other.writes first.writes.rising second.writes.rising;
          few = leb-true _ _ few;
          as_observed = λ k. parts.write_set_laws.join_has leg.writes other.writes k first.writes.rising second.writes.rising
              ∙ ap (λ o. option_or o (written_to k leg.writes)) (second.writes.as_observed k)
              ∙ ap (λ o. option_or (((observed p).legs j).written k) o) (first.writes.as_observed k);
        } in
        let new_sound : LegSound last limits chain.readings (observed_leg w written) new = record { worker = (and_parts _ _ range).1; same_worker = refl; times = times; writes = sound_writes } in
        let no_wider_first : NoWider leg new = record { low = omega (arith, both.low); high = omega (arith, both.high) } in
        let no_wider_second : NoWider other new = record { low = omega (arith, both.low); high = omega (arith, both.high) } in
        place_sound store limits h observed m s sound p _ (Some _) (join_sound h last limits (observed p) chain before l leg is_open j other other_open new no_wider_first no_wider_second w written (ltb-true _ _ room) new_sound))))))))

    pub write_keeps : (p l k x : ℕ) → Kept (call.Write p l k x) (step rules store.depth (call.Write p l k x) s)
    write_keeps p l k x =
        let P : StepOutcome (Unit {0}) → Type 0 = Kept (call.Write p l k x) in
        at_check P _ _ _ sound (λ range.
        at_open_leg P _ l _ _ sound (λ chain leg here is_open.
        at_check P _ _ _ sound (λ few.
        let w : Write = record { key = k; value = x } in
        let before = chain_at store limits h observed m s sound p chain here in
        let of_leg = leg_sound last limits (observed p) chain before.legs l leg is_open in
        let sound_writes : WritesSound limits (with_at k (Some x) ((observed p).legs l).written) (parts.write_sets.after_write w leg.writes) = record {
          rising = parts.write_set_laws.write_rises w leg.writes (and_parts _ _ range).1 of_leg.writes.rising;
          few = leb-true _ _ few;
          as_observed = λ i. parts.write_set_laws.write_has w leg.writes i of_leg.writes.rising ∙ ap (λ o. if i == k then Some x else o) (of_leg.writes.as_observed i);
        } in
        place_sound store limits h observed m s sound p _ (Some _) (write_leg_sound h last limits (observed p) chain before l leg is_open _ (with_at k (Some x) ((observed p).legs l).written) sound_writes))))

    pub abandon_keeps : (p : ℕ) → Kept (call.Abandon p) (step rules store.depth (call.Abandon p) s)
    abandon_keeps p =
        let P : StepOutcome (Unit {0}) → Type 0 = Kept (call.Abandon p) in
        at_check P _ _ _ sound (λ range.
        at_chain P _ _ _ sound (λ chain here.
        free_sound store limits h observed m s sound p))

    -- a true entry that is put into a cache leaves it true
    added_true :
        (c c' : Cache) (e : CacheEntry) → AllByRecursion (AddedTo c e) c' → TrueReading h last e.key e.reading →
        AllTrue h last c → AllTrue h last c'
    added_true c c' e added true_e all =
        let P : CacheEntry → Type 0 = λ x. TrueReading h last x.key x.reading in
        All-weaker (AddedTo c e) P (λ x from. ⊎_elim (λ has. all-has P c x all has) (λ same. subst P (sym same) true_e) from) c' added

    -- so does a true notice
    notified_true :
        (n : Notice) (c : Cache) → TrueReading h last n.key n.reading → AllTrue h last c →
        AllTrue h last (parts.caches.after_notice n c)
    notified_true n c true_n all =
        let P : CacheEntry → Type 0 = λ x. TrueReading h last x.key x.reading in
        let widen : (x : CacheEntry) → WidenedBy n c x → P x = λ x by.
        let old = by.old in
        let true_old : P old = all-has P c old all by.there in
        let rises = (sound.stands.of_keys old.key true_old.of_key).rises in
        let same_key : TrueReading h last old.key n.reading = subst (λ k. TrueReading h last k n.reading) (sym by.same_key) true_n in
        subst P (sym by.as_widened) (widened_true h last old.key old.reading n.reading rises true_old same_key by.same_time) in
        All-weaker (AfterNotice c n) P (λ x from.
        ⊎_elim
        (λ has. all-has P c x all has)
        (λ new. ⊎_elim (λ same. subst P (sym same) true_n) (widen x) new)
        from) (parts.caches.after_notice n c) (parts.cache_laws.notified n c)

    -- a true reading that meets the leg's interval answers
    answered_sound :
        (p l k : ℕ) (chain : Chain) (leg : OpenLeg) → s.places p ≡ Some chain → chain.legs l ≡ running leg → (r : Reading) → TrueReading h last k r → meets_reading leg.interval r ≡ true →
        length chain.readings < limits.readings → ((observed p).legs l).written k ≡ None → own_reading l k chain.readings ≡ None → (cache : Cache) → AllTrue h last cache →
        Kept (call.Read p l k) (answered_by rules store.depth p l k chain leg r cache s)
    answered_sound p l k chain leg here is_open r true_r meets few not_written not_read cache all =
        cache_sound store limits h _ m _
        (place_sound store limits h observed m s sound p _ (Some _) (read_sound h last limits (observed p) chain (chain_at store limits h observed m s sound p chain here) l k leg is_open r true_r meets few not_written not_read))
        leg.worker cache all

    -- what the store answers at the high end meets the interval
    store_meets :
        (k : ℕ) (rs : List LegReading) (observed_here : ObservedLeg) (leg : OpenLeg) (r : Reading) →
        LegSound last limits rs observed_here leg → AnsweredAt h last k leg.interval.high r → meets_reading leg.interval r ≡ true
    store_meets k rs observed_here leg r of_leg a =
        and_from _ _ (le-leb _ _ (omega (arith, of_leg.times.some, of_leg.times.from_known, a.as_far))) (le-leb _ _ a.not_later)

    pub read_keeps : (p l k : ℕ) → Kept (call.Read p l k) (step rules store.depth (call.Read p l k) s)
    read_keeps p l k =
        let P : StepOutcome ℕ → Type 0 = Kept (call.Read p l k) in
        at_check P _ _ _ sound (λ range.
        at_open_leg P _ l _ _ sound (λ chain leg here is_open.
        let key : is_key k ≡ true = (and_parts _ _ range).1 in
        let before = chain_at store limits h observed m s sound p chain here in
        let of_leg = leg_sound last limits (observed p) chain before.legs l leg is_open in
        let cache : Cache = s.caches leg.worker in
        at_else P _ _ _
        (λ x found.
        let never : ((observed p).legs l).written k ≡ None → ⊥ = λ none. let z : Some x ≡ None = sym found ∙ of_leg.writes.as_observed k ∙ none in grind arith in
        more_observed store limits h observed m s sound p _ chain here (read_again h last limits (observed p) chain before l k x (λ none. absurd (never none))))
        (λ unwritten.
        let not_written : ((observed p).legs l).written k ≡ None = sym (of_leg.writes.as_observed k) ∙ unwritten in
        at_else P _ _ _
        (λ r found.
        let own = own_there l k chain.readings r found in
        more_observed store limits h observed m s sound p _ chain here (read_again h last limits (observed p) chain before l k r.made.reading.value (λ _. (record { reading = r; there = own.0; same_key = own.1; same_value = refl }, read_where_own l k chain.readings (observed p).outside before.firsts ∙ ap is_some found))))
        (λ not_read.
        at_check P _ _ _ sound (λ few.
        at_else P _ _ _
        (λ e found.
        let known = parts.cache_laws.answers leg.interval k cache e found in
        let true_e = all-has (λ x. TrueReading h last x.key x.reading) cache e (sound.caches leg.worker) known.0 in
        let true_r : TrueReading h last k e.reading = subst (λ i. TrueReading h last i e.reading) known.1 true_e in
        answered_sound p l k chain leg here is_open e.reading true_r known.2 (ltb-true _ _ few) not_written not_read _ (added_true cache _ e (parts.cache_laws.used e cache) true_e (sound.caches leg.worker)))
        (λ _.
        at_result P _ _ _ (λ _ _. sound) (λ r answer.
        let a = store_true store.depth store.capacity s.store h sound.stands k leg.interval.high r key answer in
        answered_sound p l k chain leg here is_open r a.is_true (store_meets k chain.readings ((observed p).legs l) leg r of_leg a) (ltb-true _ _ few) not_written not_read _
        (added_true cache _ (entry_of k r) (parts.cache_laws.stored leg.interval.high (entry_of k r) cache) a.is_true (sound.caches leg.worker)))))))))

    pub deliver_keeps : (i : ℕ) → Kept (call.Deliver i) (step rules store.depth (call.Deliver i) s)
    deliver_keeps i =
        let P : StepOutcome (Unit {0}) → Type 0 = Kept (call.Deliver i) in
        at_else P _ _ _
        (λ n found.
        let true_n = at_position (λ n. TrueReading h last n.key n.reading) s.notices.waiting i n found sound.notices in
        cache_sound store limits h observed m s sound n.worker _ (notified_true n (s.caches n.worker) true_n (sound.caches n.worker)))
        (λ _. sound)

    pub discard_keeps : (i : ℕ) → Kept (call.Discard i) (step rules store.depth (call.Discard i) s)
    discard_keeps i =
        let P : StepOutcome (Unit {0}) → Type 0 = Kept (call.Discard i) in
        at_else P _ _ _
        (λ n found.
        record {
          same_store = sound.same_store;
          stands = sound.stands;
          before_end = sound.before_end;
          caches = sound.caches;
          notices = all_removed (λ n. TrueReading h last n.key n.reading) s.notices.waiting i sound.notices;
          chains = sound.chains;
        })
        (λ _. sound)

    pub prune_keeps : (n : ℕ) → Kept (call.Prune n) (step rules store.depth (call.Prune n) s)
    prune_keeps n =
        record {
          same_store = ap (after_prune n) sound.same_store;
          stands = prune_stands store.depth store.capacity s.store h sound.stands n;
          before_end = sound.before_end;
          caches = sound.caches;
          notices = sound.notices;
          chains = sound.chains;
        }

-- The examples hold: the traces are computed, and the law is applied to them.
use Rattle.std.proofs.Common.{◌≡◌, ℕ, ◌≤◌, if◌then◌else◌, ◌==◌, List, [], ◌∷◌, ◌++◌, map, length, Some, None, Ok, Err, sym, refl, ap, ◌∙◌, subst, arith}
use Rattle.std.specs.List.{ContainsAt as Has, AllByRecursion}
use Rattle.std.proofs.ByRecursion.{all-has}
use Rattle.snapshot.specs.Accounts.{Account}
use Rattle.snapshot.specs.Intervals.{Lies, from_to}
use Rattle.snapshot.specs.Refusals.{around_store}
use Rattle.snapshot.specs.declared.account.Write.{Write}
use Rattle.snapshot.specs.declared.fault.EngineFault.{EngineFault}
use Rattle.snapshot.specs.declared.fault.Refusal.TheVariants.{VersionGone}
use Rattle.store.specs.Laws.{LatestAt}
use Rattle.store.specs.Meaning.{issued, version_of, versions_below, query_fault, written_to}
use Rattle.store.specs.declared.version.Version.{Version}
use Rattle.engine_model.specs.Examples.{BreakInAccount, BreakIn, IgnoredPromise, LatePromise, LatePromiseListed, read, read_at_ten, table, break_in, break_in_account, read_then_pruned, pruned, then_committed, ignores_promise, written_behind, promises_late, read_from_cache}
use Rattle.engine_model.specs.Law.{ValueAt, TrueOf, AccountLaw, GoneLaw, TraceLaw, leg_at}
use Rattle.engine_model.specs.Traces.{Event, event, Trace, AtEach, NewStore, ValueRead, value_read, engine_after, trace_of, history_of, store_after, observed_of, untimed, observed_readings}
use Rattle.engine_model.specs.Rules.{Rules, the_rules}
use Rattle.engine_model.specs.Steps.{check, with_chain, with_open, with_open_leg, if_free, with_result, or_else}
use Rattle.engine_model.specs.declared.calls.Call.TheVariants as call
use Rattle.engine_model.proofs.TraceProofs.{the_rules_lawful, issued_is}

-- the zone was 0, then 5 from time 10 on, then 6 from time 30 on
abbrev zones : List Version
zones = version_of 0 0 ∷ version_of 10 5 ∷ version_of 30 6 ∷ []

-- at time 30 it is 6, and not 5
six_at_thirty : ValueAt 30 6 zones
six_at_thirty =
    (version_of 30 6, record { there = (2, omega arith, λ _. refl); not_later = omega arith; newest_one = (λ _. omega arith, (λ _. omega arith, (λ _. omega arith, tt))) }, refl)

not_five_at_thirty : ValueAt 30 5 zones → ⊥
not_five_at_thirty (v, held, five) =
    let none : AllByRecursion (λ w. 30 ≤ w.timestamp → w.value ≡ 5 → ⊥) zones = (λ late _. absurd (omega arith), (λ late _. absurd (omega arith), (λ _ five. absurd (omega arith), tt))) in
    all-has (λ w. 30 ≤ w.timestamp → w.value ≡ 5 → ⊥) zones v none held.there (held.newest_one.1.1.0 (omega arith)) five

-- What the law says of a commit and of a read that was refused as gone, where a trace ends with it.

commit_last :
    (rules : Rules) (store : NewStore) (trace before : Trace) → TraceLaw rules store trace →
    (p l clock r w : ℕ) (a : Account) → trace ≡ event (call.Commit p l clock r w) (Ok a) ∷ before →
    AccountLaw rules store (history_of trace) before p l clock a
commit_last rules store trace before law p l clock r w a e =
    let R : Event → Trace → Type 0 = λ it past. (p l clock r w : ℕ) (a : Account) → it ≡ event (call.Commit p l clock r w) (Ok a) → AccountLaw rules store (history_of trace) past p l clock a in
    (subst (AtEach R) e law.commits).0 p l clock r w a refl

gone_last :
    (rules : Rules) (store : NewStore) (trace before : Trace) → TraceLaw rules store trace →
    (p l k : ℕ) (f : EngineFault) → f.fault.refusal ≡ VersionGone → trace ≡ event (call.Read p l k) (Err f) ∷ before →
    GoneLaw (history_of before) (store_after store before).kept (leg_at (engine_after rules store before) p l) k
gone_last rules store trace before law p l k f gone e =
    let R : Event → Trace → Type 0 = λ it past. (p l k : ℕ) (f : EngineFault) → it ≡ event (call.Read p l k) (Err f) → f.fault.refusal ≡ VersionGone → GoneLaw (history_of past) (store_after store past).kept (leg_at (engine_after rules store past) p l) k in
    (subst (AtEach R) e law.reads).0 p l k f refl gone

-- The break-in. Each trace is computed in a lemma of its own.

-- it ends with the commit, accepted with that account
committed_trace :
    trace_of the_rules table break_in
    ≡ event (call.Commit 0 3 40 32 8) (Ok break_in_account) ∷ trace_of the_rules table read_then_pruned
unfolding check with_chain with_open with_open_leg if_free with_result or_else versions_below
committed_trace = refl

-- what the law says of that commit
break_in_law : AccountLaw the_rules table (history_of (trace_of the_rules table break_in)) (trace_of the_rules table read_then_pruned) 0 3 40 break_in_account
break_in_law = commit_last the_rules table _ _ (the_rules_lawful.by_calls table break_in) 0 3 40 32 8 break_in_account committed_trace

-- what the events show of the chain before it, and of the store
readings_shown : observed_readings (observed_of (trace_of the_rules table read_then_pruned) 0) ≡ untimed 1 7 5 ∷ untimed 2 9 3 ∷ untimed 5 7 5 ∷ []
unfolding check with_chain with_open with_open_leg if_free with_result or_else versions_below
readings_shown = refl

writes_shown : ((observed_of (trace_of the_rules table read_then_pruned) 0).legs 3).written ≡ λ k. if k == 11 then Some 1 else None
unfolding check with_chain with_open with_open_leg if_free with_result or_else versions_below
writes_shown = refl

last_shown : (store_after table (trace_of the_rules table read_then_pruned)).last ≡ 30
unfolding check with_chain with_open with_open_leg if_free with_result or_else versions_below
last_shown = refl

-- a key is written, so that there are writes
some_write : (k x : ℕ) (ws : List Write) → written_to k ws ≡ Some x → 1 ≤ length ws
some_write k x [] e = absurd (grind arith)
some_write k x (w ∷ ws) e = omega arith

-- so no other account keeps the law
only_account :
    (a : Account) →
    AccountLaw the_rules table (history_of (trace_of the_rules table break_in)) (trace_of the_rules table read_then_pruned) 0 3 40 a → BreakInAccount a
only_account a law =
    let writes : (k : ℕ) → written_to k a.writes ≡ (if k == 11 then Some 1 else None) = λ k. law.its_writes k ∙ ap (λ f. f k) writes_shown in
    let chosen : issued 40 30 ≡ Ok a.timestamp = subst (λ n. issued 40 n ≡ Ok a.timestamp) last_shown (law.its_timestamp (some_write 11 1 a.writes (writes 11))) in
    record {
      readings = law.its_readings ∙ readings_shown;
      writes = writes;
      timestamp = issued_is 40 30 a.timestamp chosen;
    }

-- the notice of the zone since time 30 still waits
still_waiting : map (λ n. n.reading.timestamp) (engine_after the_rules table (trace_of the_rules table break_in)).notices.waiting ≡ 30 ∷ []
unfolding check with_chain with_open with_open_leg if_free with_result or_else versions_below
still_waiting = refl

-- of the zone the store keeps the version since time 30 alone
kept_zone : (store_after table (trace_of the_rules table break_in)).kept 7 ≡ version_of 30 6 ∷ []
unfolding check with_chain with_open with_open_leg if_free with_result or_else versions_below
kept_zone = refl

-- with the prune moved, the read is refused as gone
refused_trace :
    trace_of the_rules table (pruned ++ (call.Read 0 3 7 ∷ []))
    ≡ event (call.Read 0 3 7) (Err (around_store (query_fault VersionGone 7) 0 3 7)) ∷ trace_of the_rules table pruned
unfolding check with_chain with_open with_open_leg if_free with_result or_else versions_below
refused_trace = refl

-- what the law says of that read
gone_law :
    GoneLaw (history_of (trace_of the_rules table pruned)) (store_after table (trace_of the_rules table pruned)).kept
    (leg_at (engine_after the_rules table (trace_of the_rules table pruned)) 0 3) 7
gone_law = gone_last the_rules table _ _ (the_rules_lawful.by_calls table (pruned ++ (call.Read 0 3 7 ∷ []))) 0 3 7 (around_store (query_fault VersionGone 7) 0 3 7) refl refused_trace

-- what the chain read outside its own writes, the latest first
outside_reads : (observed_of (trace_of the_rules table read_then_pruned) 0).outside ≡ value_read 3 7 5 ∷ value_read 2 9 3 ∷ value_read 1 7 5 ∷ []
unfolding check with_chain with_open with_open_leg if_free with_result or_else versions_below
outside_reads = refl

-- at time 20 the history holds each of those values
at_twenty : AllByRecursion (λ r. ValueAt 20 r.value (history_of (trace_of the_rules table break_in) r.key)) (value_read 3 7 5 ∷ value_read 2 9 3 ∷ value_read 1 7 5 ∷ [])
at_twenty =
    let Held : List ValueRead → Type 0 = λ rs. AllByRecursion (λ r. ValueAt 20 r.value (history_of (trace_of the_rules table break_in) r.key)) rs in
    subst Held outside_reads (break_in_law.agrees 20 (omega arith, omega arith))

-- the zone's history
zone_history : history_of (trace_of the_rules table break_in) 7 ≡ zones
unfolding check with_chain with_open with_open_leg if_free with_result or_else versions_below
zone_history = refl

-- the zone is 6 at time 30
zone_since_thirty : ValueAt 30 6 (history_of (trace_of the_rules table break_in) 7)
zone_since_thirty =
    let Since : List Version → Type 0 = λ vs. ValueAt 30 6 vs in
    subst Since (sym zone_history) six_at_thirty

-- where that version alone is kept, the one that was read is not
not_among : (vs : List Version) → vs ≡ version_of 30 6 ∷ [] → Has vs (version_of 10 5) → ⊥
not_among vs e has =
    let Kept : List Version → Type 0 = λ ws. Has ws (version_of 10 5) in
    let same : 10 ≡ 30 = all-has (λ v. v.timestamp ≡ 30) (version_of 30 6 ∷ []) (version_of 10 5) (refl, tt) (subst Kept e has) in
    omega (arith, same)

pub break_in_shows : BreakIn
break_in_shows =
    record {
      committed = committed_trace;
      law = break_in_law;
      by_law = only_account;
      zone = at_twenty.0;
      set_record = at_twenty.1.0;
      zone_since = zone_since_thirty;
      late = still_waiting;
      dropped = not_among _ kept_zone;
      refused = refused_trace;
      gone = gone_law;
    }

-- A wrong rule: what the law would say of the account is what the history does not hold.

pub ignored_promise : IgnoredPromise
unfolding check with_chain with_open with_open_leg if_free with_result or_else versions_below
ignored_promise =
    let broken : TraceLaw ignores_promise table (then_committed ignores_promise written_behind) → ⊥ = λ law.
    not_five_at_thirty ((law.commits.0 0 0 0 32 8 _ refl).agrees 30 (omega arith, omega arith)).0 in
    record {
      committed = refl;
      has_read = refl;
      at_thirty = (omega arith, omega arith);
      six = six_at_thirty;
      not_five = not_five_at_thirty;
      contradicts = broken;
      unlawful = λ lawful. broken (lawful.by_calls table (written_behind ++ (call.Commit 0 0 0 32 8 ∷ [])));
    }

pub late_promise : LatePromise
unfolding check with_chain with_open with_open_leg if_free with_result or_else versions_below
late_promise =
    let broken : TraceLaw promises_late table (then_committed promises_late read_from_cache) → ⊥ = λ law.
    not_five_at_thirty ((law.commits.0 0 0 0 32 8 _ refl).agrees 30 (omega arith, omega arith)).0 in
    record {
      committed = refl;
      has_read = refl;
      at_thirty = (omega arith, omega arith);
      six = six_at_thirty;
      not_five = not_five_at_thirty;
      contradicts = broken;
      unlawful = λ lawful. broken (lawful.by_calls table (read_from_cache ++ (call.Commit 0 0 0 32 8 ∷ [])));
    }

-- At time 10 the zone was 5, and the set record 0.

five_at_ten : ValueAt 10 5 zones
five_at_ten =
    (version_of 10 5, record { there = (1, omega arith, λ _. refl); not_later = omega arith; newest_one = (λ _. omega arith, (λ _. omega arith, (λ late. absurd (omega arith), tt))) }, refl)

abbrev no_set_record : List Version
no_set_record = version_of 0 0 ∷ []

zero_at_ten : ValueAt 10 0 no_set_record
zero_at_ten =
    (version_of 0 0, record { there = (0, omega arith, λ _. refl); not_later = omega arith; newest_one = (λ _. omega arith, tt) }, refl)

-- a reading of the zone as 5 up to time 30 is not true
not_five_up_to_thirty : (history : ℕ → List Version) → history 7 ≡ zones → TrueOf history (read 1 7 5 10 30) → ⊥
not_five_up_to_thirty history e true_reading =
    not_five_at_thirty (version_of 10 5, subst (LatestAt 30 (version_of 10 5)) e (true_reading 30 (omega arith, omega arith)), refl)

-- what is so of time 10 is so of the interval from 10 to 10
at_ten_alone : (P : ℕ → Type 0) → P 10 → (s : ℕ) → Lies s (from_to 10 10) → P s
at_ten_alone P ten s lies = let same : 10 ≡ s = omega (arith, lies.0, lies.1) in subst P same ten

pub late_promise_listed : LatePromiseListed
unfolding check with_chain with_open with_open_leg if_free with_result or_else versions_below
late_promise_listed =
    record {
      committed = refl;
      agrees = at_ten_alone (λ s. ValueAt s 5 zones × (ValueAt s 0 no_set_record × Unit {0})) (five_at_ten, (zero_at_ten, tt));
      listed = (1, omega arith, λ _. refl);
      six = six_at_thirty;
      untrue = not_five_up_to_thirty (history_of (then_committed promises_late read_at_ten)) refl;
      contradicts = λ law. not_five_up_to_thirty (history_of (then_committed promises_late read_at_ten)) refl (law.commits.0 0 0 0 32 8 _ refl).true_readings.1.0;
    }

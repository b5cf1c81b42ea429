-- Traces that show what the law says, and that it says something.
use Rattle.std.specs.Prelude.{◌≡◌, ℕ, ◌+◌, max, if◌then◌else◌, List, [], ◌∷◌, ◌++◌, map, Some, None, Ok, Err, Result, ◌==◌, nat_lt}
use Rattle.std.proofs.Common.{lit≤}
use Rattle.std.specs.List.{ContainsAt as Has, AllByRecursion}
use Rattle.snapshot.specs.Accounts.{Account}
use Rattle.snapshot.specs.Intervals.{Lies, from_to, narrowed}
use Rattle.snapshot.specs.Limits.{open_end}
use Rattle.snapshot.specs.Refusals.{around_store}
use Rattle.snapshot.specs.declared.account.ChainReading.{ChainReading}
use Rattle.snapshot.specs.declared.account.Reading.{Reading}
use Rattle.snapshot.specs.declared.account.Write.{Write}
use Rattle.snapshot.specs.declared.fault.Fault.{Fault}
use Rattle.snapshot.specs.declared.fault.Refusal.TheVariants.{VersionGone}
use Rattle.snapshot.specs.declared.interval.Interval.{Interval}
use Rattle.store.specs.Meaning.{Meaning, issued, version_of, version_answer, query_fault, written_to}
use Rattle.engine_model.specs.Law.{ValueAt, TrueOf, without_times, AccountLaw, GoneLaw, leg_at, TraceLaw, KeepTraceLaw}
use Rattle.engine_model.specs.Traces.{event, Trace, NewStore, new_table, engine_after, trace_of, history_of, store_after, value_read, observed_of, untimed}
use Rattle.engine_model.specs.Rules.{Rules, the_caches, the_write_sets, the_limits, the_rules}
use Rattle.engine_model.specs.declared.calls.Call.{Call}
use Rattle.engine_model.specs.declared.calls.Call.TheVariants as call

-- a chain's reading: worker, key, value, timestamp and promise
abbrev pub read : ℕ → ℕ → ℕ → ℕ → ℕ → ChainReading
read w k x t p = record { worker = w; key = k; reading = record { value = x; timestamp = t; promise = p } }

abbrev pub wrote : ℕ → ℕ → Write
wrote k x = record { key = k; value = x }

abbrev pub account_with : ℕ → ℕ → ℕ → List ChainReading → List Write → Account
account_with l h t rs ws = record { low = l; high = h; timestamp = t; readings = rs; writes = ws }

-- A late notice, a split chain and a dropped version meet. Key 7 is the dock's zone, 9 its set record, 11 the guard's orders.

-- the zone is 5 from time 10 on, the set record 3 from time 20 on; worker 1 has read the zone, and holds it as known up to 20
abbrev pub two_commits_and_a_read : List Call
two_commits_and_a_read =
    call.Begin 0 1 ∷ call.Write 0 0 7 5 ∷ call.Commit 0 0 10 32 8
    ∷ call.Begin 0 2 ∷ call.Write 0 0 9 3 ∷ call.Commit 0 0 20 32 8
    ∷ call.Begin 0 1 ∷ call.Read 0 0 7 ∷ call.Commit 0 0 0 32 8
    ∷ []

-- the zone is 6 from time 30 on, and the notice of that for worker 1 is late; a chain splits, one leg reads the zone from worker
-- 1's cache, the other the set record that was committed since, and they are joined at worker 5
abbrev pub split_and_joined : List Call
split_and_joined =
    call.Begin 0 4 ∷ call.Write 0 0 7 6 ∷ call.Commit 0 0 30 32 8
    ∷ call.Begin 0 3 ∷ call.Fork 0 0 1 2 ∷ call.Read 0 1 7 ∷ call.Read 0 2 9 ∷ call.Join 0 1 2 5
    ∷ []

-- the joined leg asks the store for the zone; then a prune drops that version, which both readings of the zone are of
abbrev pub read_then_pruned : List Call
read_then_pruned = two_commits_and_a_read ++ (split_and_joined ++ (call.Read 0 3 7 ∷ call.Prune 30 ∷ call.Write 0 3 11 1 ∷ []))

-- and the chain commits
abbrev pub break_in : List Call
break_in = read_then_pruned ++ (call.Commit 0 3 40 32 8 ∷ [])

-- the same with the prune moved before that read
abbrev pub pruned : List Call
pruned = two_commits_and_a_read ++ (split_and_joined ++ (call.Prune 30 ∷ []))

-- a table of 1,024 records
abbrev pub table : NewStore
table = new_table 1024 (lit≤ tt)

-- what all three readings agree on is time 20: the zone was 5 and the set record 3
abbrev pub break_in_account : Account
break_in_account =
    account_with 20 20 40 (read 1 7 5 10 20 ∷ read 2 9 3 20 30 ∷ read 5 7 5 10 29 ∷ []) (wrote 11 1 ∷ [])

-- What that account has by the law, whatever else is in it.
pub record BreakInAccount (a : Account) : Type 0 where
  -- these readings and no others: worker 1 read the zone, worker 2 the set record, and worker 5 the zone
  pub readings : without_times a.readings ≡ untimed 1 7 5 ∷ untimed 2 9 3 ∷ untimed 5 7 5 ∷ []
  -- the guard's orders, and no other key
  pub writes : (k : ℕ) → written_to k a.writes ≡ (if k == 11 then Some 1 else None)
  -- at its clock reading
  pub timestamp : a.timestamp ≡ 40

-- What comes of it.
pub record BreakIn : Type 0 where
  -- the commit is accepted with that account
  pub committed :
      trace_of the_rules table break_in
      ≡ event (call.Commit 0 3 40 32 8) (Ok break_in_account) ∷ trace_of the_rules table read_then_pruned
  -- what the law says of it
  pub law :
      AccountLaw the_rules table (history_of (trace_of the_rules table break_in)) (trace_of the_rules table read_then_pruned) 0 3 40 break_in_account
  -- and an account with other readings, other writes or another timestamp would not keep the law
  pub by_law :
      (a : Account) →
      AccountLaw the_rules table (history_of (trace_of the_rules table break_in)) (trace_of the_rules table read_then_pruned) 0 3 40 a → BreakInAccount a
  -- so what was read was true of time 20
  pub zone : ValueAt 20 5 (history_of (trace_of the_rules table break_in) 7)
  pub set_record : ValueAt 20 3 (history_of (trace_of the_rules table break_in) 9)
  -- though the zone is 6 since time 30, the notice of that still waits, and the store has dropped the version that was read
  pub zone_since : ValueAt 30 6 (history_of (trace_of the_rules table break_in) 7)
  pub late : map (λ n. n.reading.timestamp) (engine_after the_rules table (trace_of the_rules table break_in)).notices.waiting ≡ 30 ∷ []
  pub dropped : Has ((store_after table (trace_of the_rules table break_in)).kept 7) (version_of 10 5) → ⊥
  -- with the prune moved, the read is refused as gone instead
  pub refused :
      trace_of the_rules table (pruned ++ (call.Read 0 3 7 ∷ []))
      ≡ event (call.Read 0 3 7) (Err (around_store (query_fault VersionGone 7) 0 3 7)) ∷ trace_of the_rules table pruned
  -- what the law says of that
  pub gone :
      GoneLaw (history_of (trace_of the_rules table pruned)) (store_after table (trace_of the_rules table pruned)).kept
      (leg_at (engine_after the_rules table (trace_of the_rules table pruned)) 0 3) 7

-- Two wrong rules, with short traces in which a committed account says of the zone what was not so: 5 at time 30.

-- rules with one in which something is wrong
abbrev pub rules_but : (Meaning → ℕ → ℕ → Result Reading Fault) → (Interval → Reading → Interval) → Rules
rules_but version narrow =
    record { version = version; narrow = narrow; timestamps = issued; caches = the_caches; write_sets = the_write_sets; limits = the_limits }

-- the trace by these calls and a commit
abbrev pub then_committed : Rules → List Call → Trace
then_committed rules calls = trace_of rules table (calls ++ (call.Commit 0 0 0 32 8 ∷ []))

-- It contradicts the law, so that the rules are not lawful.
pub record Breaks (rules : Rules) (calls : List Call) (shown : Account) : Type 0 where
  -- the commit is accepted with this account
  pub committed : then_committed rules calls ≡ event (call.Commit 0 0 0 32 8) (Ok shown) ∷ trace_of rules table calls
  -- its chain has read the zone as 5, and nothing else
  pub has_read : (observed_of (trace_of rules table calls) 0).outside ≡ value_read 0 7 5 ∷ []
  -- time 30 is in its interval
  pub at_thirty : Lies 30 (from_to shown.low shown.high)
  -- but then the zone was 6, and not 5
  pub six : ValueAt 30 6 (history_of (then_committed rules calls) 7)
  pub not_five : ValueAt 30 5 (history_of (then_committed rules calls) 7) → ⊥
  -- and so the trace does not keep the law
  pub contradicts : TraceLaw rules table (then_committed rules calls) → ⊥
  pub unlawful : KeepTraceLaw rules → ⊥

-- narrowing forgets the promise
abbrev pub ignores_promise : Rules
ignores_promise = rules_but version_answer (λ i r. from_to (max i.low r.timestamp) i.high)

-- a chain reads the zone, and before it commits another one writes it
abbrev pub written_behind : List Call
written_behind =
    call.Begin 0 1 ∷ call.Write 0 0 7 5 ∷ call.Commit 0 0 10 32 8
    ∷ call.Begin 0 1 ∷ call.Read 0 0 7
    ∷ call.Begin 1 3 ∷ call.Write 1 0 7 6 ∷ call.Commit 1 0 30 32 8
    ∷ []

-- the commit's account says so of all times from 10 on
abbrev pub IgnoredPromise : Type 0
IgnoredPromise = Breaks ignores_promise written_behind (account_with 10 open_end 0 (read 1 7 5 10 10 ∷ []) [])

-- a promise is one too late: where there is a next version, that one's own timestamp
abbrev pub one_too_late : Meaning → Reading → Reading
one_too_late m r =
    record {
      value = r.value;
      timestamp = r.timestamp;
      promise = if nat_lt r.promise m.last then r.promise + 1 else r.promise;
    }

abbrev pub late_answer : Meaning → Result Reading Fault → Result Reading Fault
late_answer m (Ok r) = Ok (one_too_late m r)
late_answer m (Err f) = Err f

abbrev pub promises_late : Rules
promises_late = rules_but (λ m k s. late_answer m (version_answer m k s)) narrowed

-- a chain that has read at time 10 reads the old zone after another one has written it
abbrev pub read_at_ten : List Call
read_at_ten =
    call.Begin 0 1 ∷ call.Write 0 0 7 5 ∷ call.Commit 0 0 10 32 8
    ∷ call.Begin 0 1 ∷ call.Read 0 0 9
    ∷ call.Begin 1 2 ∷ call.Write 1 0 7 6 ∷ call.Commit 1 0 30 32 8
    ∷ call.Read 0 0 7
    ∷ []

-- that chain commits, and the next one reads the old zone from worker 1's cache, where the first has left it
abbrev pub read_from_cache : List Call
read_from_cache = read_at_ten ++ (call.Commit 0 0 0 32 8 ∷ call.Begin 0 1 ∷ call.Read 0 0 7 ∷ [])

-- the account of the second chain says so of times 10 to 30
abbrev pub LatePromise : Type 0
LatePromise = Breaks promises_late read_from_cache (account_with 10 30 0 (read 1 7 5 10 30 ∷ []) [])

-- That of the first chain has the right interval, but lists a reading that is not true: the zone as 5 up to time 30.
pub record ListsUntrue (rules : Rules) (calls : List Call) (shown : Account) : Type 0 where
  -- the commit is accepted with this account
  pub committed : then_committed rules calls ≡ event (call.Commit 0 0 0 32 8) (Ok shown) ∷ trace_of rules table calls
  -- at every time of its interval the history holds what the chain has read
  pub agrees :
      (s : ℕ) → Lies s (from_to shown.low shown.high) →
      AllByRecursion (λ r. ValueAt s r.value (history_of (then_committed rules calls) r.key)) (observed_of (trace_of rules table calls) 0).outside
  -- but it lists this reading, and at time 30 the zone was 6, and not 5
  pub listed : Has shown.readings (read 1 7 5 10 30)
  pub six : ValueAt 30 6 (history_of (then_committed rules calls) 7)
  pub untrue : TrueOf (history_of (then_committed rules calls)) (read 1 7 5 10 30) → ⊥
  -- and so the trace does not keep the law
  pub contradicts : TraceLaw rules table (then_committed rules calls) → ⊥

abbrev pub LatePromiseListed : Type 0
LatePromiseListed = ListsUntrue promises_late read_at_ten (account_with 10 10 0 (read 1 9 0 0 10 ∷ read 1 7 5 10 30 ∷ []) [])

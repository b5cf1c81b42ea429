-- What a store means, and what its four calls answer and leave.
use Rattle.std.specs.Prelude.{ℕ, zero, suc, ◌+◌, ◌-◌, min, max, Bool, false, if◌then◌else◌, ◌&&◌, ◌||◌, List, [], ◌∷◌, ◌++◌, length, drop, Some, None, Ok, Err, Option, Result, ◌==◌, nat_le}
use Rattle.std.specs.Option.{ok_or, option_or}
use Rattle.std.specs.Result.{result_and}
use Rattle.snapshot.specs.Accounts.{rising_from}
use Rattle.snapshot.specs.Limits.{open_end, key_count, write_keys, is_key, is_time}
use Rattle.snapshot.specs.Refusals.{unnamed, at_key}
use Rattle.snapshot.specs.declared.account.Reading.{Reading}
use Rattle.snapshot.specs.declared.account.Write.{Write}
use Rattle.snapshot.specs.declared.fault.Fault.{Fault}
use Rattle.snapshot.specs.declared.fault.Layer.TheVariants.{Store}
use Rattle.snapshot.specs.declared.fault.Refusal.{Refusal}
use Rattle.snapshot.specs.declared.fault.Refusal.TheVariants.{OutOfRange, UnfitWrites, ClockTooHigh, NoTimeLeft, CapacityExceeded, VersionGone}
use Rattle.store.specs.declared.version.Version.{Version}

-- the last timestamp, the most versions of all keys together, and of each key the versions kept, oldest first
pub record Meaning : Type 0 where
  pub last : ℕ
  pub capacity : ℕ
  pub kept : ℕ → List Version

abbrev pub version_of : ℕ → ℕ → Version
version_of t x = record { timestamp = t; value = x }

-- a new store keeps of each key one version, value 0 at time 0
abbrev pub new_store : ℕ → Meaning
new_store c = record { last = 0; capacity = c; kept = λ k. if is_key k then version_of 0 0 ∷ [] else [] }

-- a store's faults: those of a question name its key, those of a commit name nothing
abbrev pub query_fault : Refusal → ℕ → Fault
query_fault r k = at_key r Store k

abbrev pub store_fault : Refusal → Fault
store_fault r = unnamed r Store

-- Version.

-- a version that is known to be current up to this time
abbrev pub reading_of : Version → ℕ → Reading
reading_of v p = record { value = v.value; timestamp = v.timestamp; promise = p }

-- up to when a version is current, if these come after it: one less than the next one's timestamp, or last if there is none
abbrev pub end_before : List Version → ℕ → ℕ
end_before [] last = last
end_before (v ∷ vs) last = v.timestamp - 1

-- the newest version that is not later than s: one of the later ones, else this one
abbrev pub newest_at : ℕ → ℕ → List Version → Option Reading
newest_at s last [] = None
newest_at s last (v ∷ vs) =
    option_or (newest_at s last vs) (if nat_le v.timestamp s then Some (reading_of v (end_before vs last)) else None)

-- there is such a key and such a time
abbrev pub in_range : ℕ → ℕ → Result (Unit {0}) Fault
in_range k s = if is_key k && is_time s then Ok tt else Err (query_fault OutOfRange k)

abbrev pub version_answer : Meaning → ℕ → ℕ → Result Reading Fault
version_answer m k s =
    result_and (in_range k s) (ok_or (newest_at s m.last (m.kept k)) (query_fault VersionGone k))

-- Commit.

-- one to eight writes, keys in range and strictly rising
abbrev pub fit_writes : List Write → Bool
fit_writes ws = nat_le 1 (length ws) && nat_le (length ws) write_keys && rising_from 0 ws

-- how a timestamp is chosen: from the clock reading and last, or refused
abbrev pub Issuing : Type 0
Issuing = ℕ → ℕ → Result ℕ Fault

-- the larger of the clock reading and last + 1; refused for a clock reading at the open end or above, and where no time is left
abbrev pub issued : Issuing
issued clock last =
    if nat_le open_end clock then Err (store_fault ClockTooHigh)
    else if nat_le open_end (last + 1) then Err (store_fault NoTimeLeft)
    else Ok (max clock (last + 1))

-- only for fit writes
abbrev pub timestamp_by : Issuing → ℕ → List Write → ℕ → Result ℕ Fault
timestamp_by issue clock ws last = if fit_writes ws then issue clock last else Err (store_fault UnfitWrites)

abbrev pub timestamp_for : ℕ → List Write → ℕ → Result ℕ Fault
timestamp_for clock ws last = timestamp_by issued clock ws last

-- the value that the writes give a key
abbrev pub written_to : ℕ → List Write → Option ℕ
written_to k [] = None
written_to k (w ∷ ws) = if w.key == k then Some w.value else written_to k ws

-- the newest versions, as many as the depth
abbrev pub newest : ℕ → List Version → List Version
newest depth vs = drop (length vs - depth) vs

-- what is kept of a key after a commit: a written key gains a version, and then keeps its newest ones only
abbrev pub kept_with : ℕ → ℕ → Option ℕ → List Version → List Version
kept_with depth t None vs = vs
kept_with depth t (Some x) vs = newest depth (vs ++ (version_of t x ∷ []))

abbrev pub with_writes : ℕ → ℕ → List Write → Meaning → Meaning
with_writes depth t ws m =
    record { last = t; capacity = m.capacity; kept = λ k. kept_with depth t (written_to k ws) (m.kept k) }

-- the versions of the keys below n together
unfoldable pub versions_below : ℕ → (ℕ → List Version) → ℕ
versions_below zero kept = 0
versions_below (suc n) kept = versions_below n kept + length (kept n)

-- the versions kept of all keys together
abbrev pub versions_kept : Meaning → ℕ
versions_kept m = versions_below key_count m.kept

-- refused where more versions would be kept than there is room for
abbrev pub if_room : ℕ → List Write → Meaning → Result ℕ Fault → Result ℕ Fault
if_room depth ws m (Ok t) =
    if nat_le (versions_kept (with_writes depth t ws m)) m.capacity then Ok t else Err (store_fault CapacityExceeded)
if_room depth ws m (Err e) = Err e

abbrev pub commit_answer_by : Issuing → ℕ → ℕ → List Write → Meaning → Result ℕ Fault
commit_answer_by issue depth clock ws m = if_room depth ws m (timestamp_by issue clock ws m.last)

abbrev pub commit_answer : ℕ → ℕ → List Write → Meaning → Result ℕ Fault
commit_answer depth clock ws m = commit_answer_by issued depth clock ws m

-- what a commit leaves, by its answer
abbrev pub committed : ℕ → List Write → Meaning → Result ℕ Fault → Meaning
committed depth ws m (Ok t) = with_writes depth t ws m
committed depth ws m (Err e) = m

abbrev pub after_commit : ℕ → ℕ → List Write → Meaning → Meaning
after_commit depth clock ws m = committed depth ws m (commit_answer depth clock ws m)

-- Prune.

-- is one of the versions not above h?
abbrev pub some_up_to : ℕ → List Version → Bool
some_up_to h [] = false
some_up_to h (v ∷ vs) = nat_le v.timestamp h || some_up_to h vs

-- how many versions are older than the newest one not above h; none without such a one
abbrev pub outdated : ℕ → List Version → ℕ
outdated h [] = 0
outdated h (v ∷ vs) = if some_up_to h vs then suc (outdated h vs) else 0

-- each key drops its outdated versions
abbrev pub pruned_at : ℕ → Meaning → Meaning
pruned_at h m =
    record { last = m.last; capacity = m.capacity; kept = λ k. drop (outdated h (m.kept k)) (m.kept k) }

-- nothing later than last is looked for
abbrev pub after_prune : ℕ → Meaning → Meaning
after_prune h m = pruned_at (min h m.last) m

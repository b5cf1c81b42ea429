-- What holds of every store after any calls on a new one, in terms of all that was ever committed.
use Rattle.std.specs.Prelude.{◌≡◌, ℕ, ◌+◌, ◌<◌, ◌≤◌, min, true, List, [], ◌∷◌, ◌++◌, length, filter, Some, None, Ok, Err, Option, nat_lt, slice_index_or, is_ok}
use Rattle.std.specs.Result.{result_ok}
use Rattle.std.specs.List.{ContainsAt as Has, AllByRecursion}
use Rattle.snapshot.specs.Limits.{open_end, key_count, is_key, is_time, is_timestamp}
use Rattle.snapshot.specs.declared.account.Reading.{Reading}
use Rattle.snapshot.specs.declared.account.Write.{Write}
use Rattle.snapshot.specs.declared.fault.Refusal.TheVariants.{CapacityExceeded, VersionGone}
use Rattle.store.specs.Calls.{store_answers}
use Rattle.store.specs.Meaning.{Meaning, Issuing, version_of, new_store, version_answer, fit_writes, commit_answer, after_commit, after_prune, written_to, versions_kept, query_fault, store_fault}
use Rattle.store.specs.declared.calls.StoreAnswer.{StoreAnswer}
use Rattle.store.specs.declared.calls.StoreAnswer.TheVariants as answer
use Rattle.store.specs.declared.calls.StoreCall.{StoreCall}
use Rattle.store.specs.declared.calls.StoreCall.TheVariants as call
use Rattle.store.specs.declared.version.Version.{Version}

-- What was committed.

-- the timestamp of an accepted commit
abbrev pub timestamp_in : StoreAnswer → Option ℕ
timestamp_in (answer.Last t) = None
timestamp_in (answer.Version r) = None
timestamp_in (answer.Commit r) = result_ok r
timestamp_in answer.Prune = None

-- a version, where there is both a timestamp and a value
abbrev pub versions_of : Option ℕ → Option ℕ → List Version
versions_of None x = []
versions_of (Some t) None = []
versions_of (Some t) (Some x) = version_of t x ∷ []

-- the version that a call gave a key: only an accepted commit gives one, to the keys it writes
abbrev pub versions_from_call : StoreCall → StoreAnswer → ℕ → List Version
versions_from_call call.Last a k = []
versions_from_call (call.Version j s) a k = []
versions_from_call (call.Commit c ws) a k = versions_of (timestamp_in a) (written_to k ws.now)
versions_from_call (call.Prune h) a k = []

abbrev pub versions_from_calls : List StoreCall → List StoreAnswer → ℕ → List Version
versions_from_calls [] bs k = []
versions_from_calls (c ∷ cs) [] k = []
versions_from_calls (c ∷ cs) (b ∷ bs) k = versions_from_call c b k ++ versions_from_calls cs bs k

-- all that a key ever had, oldest first: value 0 at time 0, then what the calls gave it, by calls and answers alone
abbrev pub all_versions : List StoreCall → List StoreAnswer → ℕ → List Version
all_versions calls answers k = version_of 0 0 ∷ versions_from_calls calls answers k

-- What the laws speak of.

-- the timestamps rise strictly
abbrev pub Rises : List Version → Type 0
Rises [] = Unit {0}
Rises (v ∷ vs) = AllByRecursion (λ w. v.timestamp < w.timestamp) vs × Rises vs

-- at time s these versions hold v: it is one of them, not later than s, and none that is not later than s is newer
pub record LatestAt (s : ℕ) (v : Version) (vs : List Version) : Type 0 where
  pub there : Has vs v
  pub not_later : v.timestamp ≤ s
  pub newest_one : AllByRecursion (λ w. w.timestamp ≤ s → w.timestamp ≤ v.timestamp) vs

-- the version that a reading shows
abbrev pub version_read : Reading → Version
version_read r = version_of r.timestamp r.value

-- The laws.

-- a reading that was answered for a key at time s, where the key ever had these versions
pub record AnswerLaw (m : Meaning) (ever : List Version) (k s : ℕ) (r : Reading) : Type 0 where
  -- it shows the newest kept version that is not later than s
  pub newest_kept : LatestAt s (version_read r) (m.kept k)
  -- that version was current at every time from its timestamp to its promise
  pub current : (u : ℕ) → r.timestamp ≤ u → u ≤ r.promise → LatestAt u (version_read r) ever
  -- the promise is not before the timestamp, and not above last
  pub reaches : r.timestamp ≤ r.promise
  pub known : r.promise ≤ m.last
  -- the promise reaches the time asked, as far as last
  pub as_far_as_queried : min s m.last ≤ r.promise
  -- it ends at last, or where the next kept version begins
  pub ends : r.promise < m.last → (w : Version) × Has (m.kept k) w × (w.timestamp ≡ r.promise + 1)

-- one key of a store, where the key ever had these versions
pub record KeyLaw (m : Meaning) (ever : List Version) (k : ℕ) : Type 0 where
  -- at least one version is kept
  pub some : 1 ≤ length (m.kept k)
  -- the kept versions rise strictly in time
  pub rises : Rises (m.kept k)
  -- nothing, kept or dropped, is later than last
  pub up_to_last : AllByRecursion (λ v. v.timestamp ≤ m.last) ever
  -- what is kept is the end of all that the key ever had
  pub suffix : (gone : List Version) × (ever ≡ gone ++ m.kept k)
  -- what version answers
  pub answers : (s : ℕ) (r : Reading) → version_answer m k s ≡ Ok r → AnswerLaw m ever k s r
  -- where version is refused as gone, the version that was current at s has been dropped
  pub refused : (s : ℕ) → version_answer m k s ≡ Err (query_fault VersionGone k) → (v : Version) × LatestAt s v ever × (Has (m.kept k) v → ⊥)
  -- and it is refused so exactly where the oldest kept version is later than s
  pub only_where : (s : ℕ) (d : Version) → version_answer m k s ≡ Err (query_fault VersionGone k) → s < (slice_index_or (m.kept k) 0 d).timestamp
  pub every_where : (s : ℕ) (d : Version) → is_time s ≡ true → s < (slice_index_or (m.kept k) 0 d).timestamp → version_answer m k s ≡ Err (query_fault VersionGone k)

-- a way of choosing timestamps that a store can take: a commit can have the one that is issued, and it is later than last
pub record IssuingLaws (issue : Issuing) : Type 0 where
  pub fits : (clock last t : ℕ) → issue clock last ≡ Ok t → is_timestamp t ≡ true
  pub later : (clock last t : ℕ) → issue clock last ≡ Ok t → last < t

-- one key that an accepted commit writes: what is kept of it before and after, and its new version
pub record WrittenLaw (depth : ℕ) (before after : List Version) (new : Version) : Type 0 where
  -- the new version is the newest
  pub newest : (older : List Version) × (after ≡ older ++ (new ∷ []))
  -- of what was kept, oldest first, and the new version, the oldest may be gone, and nothing else
  pub oldest_first : (gone : List Version) × (before ++ (new ∷ []) ≡ gone ++ after)
  -- a version is dropped only where the key then has as many as the depth, all newer
  pub beyond_depth : (v : Version) → Has before v → (Has after v → ⊥) → (length after ≡ depth) × AllByRecursion (λ w. v.timestamp < w.timestamp) after

-- a commit of these writes that was accepted with this timestamp, where the keys ever had these versions; `after` is the
-- meaning that it leaves
pub record CommitLaw (depth : ℕ) (m after : Meaning) (ever : ℕ → List Version) (clock : ℕ) (ws : List Write) (t : ℕ) : Type 0 where
  -- it is later than everything before it
  pub after_last : m.last < t
  pub after_all : (k : ℕ) → is_key k ≡ true → AllByRecursion (λ v. v.timestamp < t) (ever k)
  -- it is the clock reading, if that is later than last
  pub by_clock : m.last < clock → t ≡ clock
  -- else it is one more than last
  pub by_last : clock ≤ m.last → t ≡ m.last + 1
  -- it is the last timestamp from then on
  pub new_last : after.last ≡ t
  -- each key that is written gets the value at that timestamp
  pub of_written : (w : Write) → Has ws w → WrittenLaw depth (m.kept w.key) (after.kept w.key) (version_of t w.value)
  -- no other key changes
  pub of_others : (k : ℕ) → AllByRecursion (λ w. w.key ≡ k → ⊥) ws → after.kept k ≡ m.kept k

-- how many versions more these writes make: one for each written key that keeps fewer than the depth
abbrev pub versions_gained : ℕ → List Write → Meaning → ℕ
versions_gained depth ws m = length (filter (λ w. nat_lt (length (m.kept w.key)) depth) ws)

-- one key of a store that is pruned at h: what is kept of it before and after
pub record PruneLaw (h last : ℕ) (before after : List Version) : Type 0 where
  -- a version is dropped where a newer one of the key is above neither h nor last
  pub outdated : (v w : Version) → Has before v → Has before w → v.timestamp < w.timestamp → w.timestamp ≤ min h last → Has after v → ⊥
  -- and only there
  pub only_outdated : (v : Version) → Has before v → (Has after v → ⊥) → (w : Version) × Has before w × (v.timestamp < w.timestamp) × (w.timestamp ≤ min h last)
  -- what stays keeps its order, and nothing is added
  pub oldest_first : (gone : List Version) × (before ≡ gone ++ after)

-- a store of this depth and capacity, where the keys ever had these versions
pub record StoreLaw (depth capacity : ℕ) (m : Meaning) (ever : ℕ → List Version) : Type 0 where
  -- the capacity stays
  pub same_capacity : m.capacity ≡ capacity
  -- all keys together keep no more versions than that
  pub within_capacity : versions_kept m ≤ capacity
  -- a key keeps no more than the depth
  pub within_depth : (k : ℕ) → is_key k ≡ true → length (m.kept k) ≤ depth
  -- what holds of each key
  pub of_keys : (k : ℕ) → is_key k ≡ true → KeyLaw m (ever k) k
  -- what a commit that is accepted leaves
  pub of_commits : (clock : ℕ) (ws : List Write) (t : ℕ) → commit_answer depth clock ws m ≡ Ok t → CommitLaw depth m (after_commit depth clock ws m) ever clock ws t
  -- a commit that is refused for want of room would have left more versions than the capacity
  pub no_room : (clock : ℕ) (ws : List Write) → commit_answer depth clock ws m ≡ Err (store_fault CapacityExceeded) → capacity < versions_kept m + versions_gained depth ws m
  -- a commit of fit writes that could have a timestamp is refused so where it would leave more
  pub no_more : (clock : ℕ) (ws : List Write) → fit_writes ws ≡ true → clock < open_end → m.last + 1 < open_end → capacity < versions_kept m + versions_gained depth ws m → commit_answer depth clock ws m ≡ Err (store_fault CapacityExceeded)
  -- and else it is accepted
  pub room : (clock : ℕ) (ws : List Write) → fit_writes ws ≡ true → clock < open_end → m.last + 1 < open_end → versions_kept m + versions_gained depth ws m ≤ capacity → is_ok (commit_answer depth clock ws m) ≡ true
  -- what a prune leaves of each key
  pub of_prunes : (h k : ℕ) → is_key k ≡ true → PruneLaw h m.last (m.kept k) ((after_prune h m).kept k)
  -- last stays in a prune
  pub same_last : (h : ℕ) → (after_prune h m).last ≡ m.last

-- a store that was new before these calls, of any capacity from 64 on, keeps the laws after them
abbrev pub KeepsLaws : ℕ → List StoreCall → Meaning → Meaning → Type 0
KeepsLaws depth calls before after =
    (capacity : ℕ) → key_count ≤ capacity → before ≡ new_store capacity → StoreLaw depth capacity after (all_versions calls (store_answers depth calls before))

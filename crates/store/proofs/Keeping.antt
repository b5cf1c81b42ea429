-- A store after any calls on a new one keeps the laws.
use Rattle.std.proofs.Common.{◌≡◌, ℕ, ◌+◌, ◌<◌, ◌≤◌, true, List, [], ◌∷◌, ◌++◌, get_or, Some, None, Ok, Err, Option, sym, refl, ap, subst, append_assoc, is_ok, arith}
use Rattle.std.specs.Option.{ok_or}
use Rattle.std.specs.Result.{result_and}
use Rattle.std.specs.List.{ContainsAt as Has}
use Rattle.std.proofs.ByRecursion.{All-get_or, all-has}
use Rattle.std.proofs.lemmas.Bool.Decides.{nat_tests}
use Rattle.std.proofs.lemmas.Option.{MatchOption-at_some, MatchOption-at_none}
use Rattle.snapshot.specs.Limits.{open_end, key_count, is_key, is_time}
use Rattle.snapshot.specs.declared.account.Reading.{Reading}
use Rattle.snapshot.specs.declared.account.Write.{Write}
use Rattle.snapshot.specs.declared.fault.Refusal.TheVariants.{CapacityExceeded, VersionGone}
use Rattle.store.specs.Calls.{answer_of, after_store_call, store_answers, after_store_calls}
use Rattle.store.specs.Laws.{Rises, LatestAt, version_read, versions_from_call, versions_from_calls, AnswerLaw, KeyLaw, WrittenLaw, CommitLaw, StoreLaw, versions_gained, all_versions, KeepsLaws}
use Rattle.store.specs.Meaning.{Meaning, version_of, new_store, fit_writes, issued, query_fault, in_range, newest_at, version_answer, commit_answer, kept_with, with_writes, committed, after_commit, after_prune, versions_kept, store_fault}
use Rattle.store.specs.declared.calls.StoreCall.{StoreCall}
use Rattle.store.specs.declared.calls.StoreCall.TheVariants as call
use Rattle.store.specs.declared.version.Version.{Version}
use Rattle.store.proofs.Versions.{Later, Before, Shows, NewestMeans, before_from_up_to, rises_end, up_to_end, later_from_first, holds_in_all, holds_from_zero, newest_means, newest_none}
use Rattle.store.proofs.Writes.{fit_rises, rising_keys, written_each, unwritten}
use Rattle.store.proofs.Counting.{versions_after}
use Rattle.store.proofs.Committing.{written_law}
use Rattle.store.proofs.Pruning.{prune_law}
use Rattle.store.proofs.Standing.{KeyStands, Stands, new_stands, accepted_fit, accepted_issued, refused_for_room, refused_beyond, accepted_within, timed, accepted, issued_laws, issued_by_clock, issued_by_last, nothing_given_stands, after_commit_stands, prune_stands}

-- What version's answer says of newestAt's.

answered : (k s : ℕ) (o : Option Reading) (r : Reading) → result_and (in_range k s) (ok_or o (query_fault VersionGone k)) ≡ Ok r → o ≡ Some r
answered k s o r e = grind arith

refused_gone : (k s : ℕ) (o : Option Reading) → result_and (in_range k s) (ok_or o (query_fault VersionGone k)) ≡ Err (query_fault VersionGone k) → o ≡ None
refused_gone k s o e = grind arith

-- One key.

module _ (m : Meaning) (ever : List Version) (k : ℕ) (key : is_key k ≡ true) (stands : KeyStands m.last (m.kept k) ever) where
  kept_rises : Rises (m.kept k)
  kept_rises = rises_end ever (m.kept k) stands.suffix stands.rises

  newest_kept_lem : (s : ℕ) → NewestMeans s m.last (m.kept k) (newest_at s m.last (m.kept k))
  newest_kept_lem s =
      newest_means s m.last (m.kept k) kept_rises (up_to_end m.last ever (m.kept k) stands.suffix stands.up_to_last)

  answer_law : (s : ℕ) (r : Reading) → version_answer m k s ≡ Ok r → AnswerLaw m ever k s r
  answer_law s r e =
      let shows = MatchOption-at_some (Later s (m.kept k)) (Shows s m.last (m.kept k)) r (answered k s _ r e) (newest_kept_lem s) in
      record {
        newest_kept = shows.newest;
        current = λ u from to. holds_in_all u ever (m.kept k) (version_read r) stands.suffix stands.rises (shows.current u from to);
        reaches = shows.reaches;
        known = shows.known;
        as_far_as_queried = shows.as_far_as_queried;
        ends = shows.ends;
      }

  -- a refusal as gone says that every kept version is later
  all_later : (s : ℕ) → version_answer m k s ≡ Err (query_fault VersionGone k) → Later s (m.kept k)
  all_later s e =
      MatchOption-at_none (Later s (m.kept k)) (Shows s m.last (m.kept k)) (refused_gone k s _ e) (newest_kept_lem s)

  -- the version that was current then is not kept
  dropped : (s : ℕ) → Later s (m.kept k) → (v : Version) × LatestAt s v ever × (Has (m.kept k) v → ⊥)
  dropped s later =
      let held = holds_from_zero s ever stands.from_zero stands.rises in
      (held.0, held.1, λ has. omega (arith, held.1.not_later, all-has (λ w. s < w.timestamp) (m.kept k) held.0 later has))

  gone_where : (s : ℕ) (d : Version) → is_time s ≡ true → s < (get_or (m.kept k) 0 d).timestamp → version_answer m k s ≡ Err (query_fault VersionGone k)
  gone_where s d time lt =
      rw (key, time, newest_none s m.last (m.kept k) (later_from_first s (m.kept k) d kept_rises lt))

  key_law : KeyLaw m ever k
  key_law =
      record {
        some = stands.some;
        rises = kept_rises;
        up_to_last = stands.up_to_last;
        suffix = stands.suffix;
        answers = answer_law;
        refused = λ s e. dropped s (all_later s e);
        only_where = λ s d e. All-get_or (λ w. s < w.timestamp) (m.kept k) 0 d stands.some (all_later s e);
        every_where = gone_where;
      }

-- The whole store.

module _ (depth capacity : ℕ) (m : Meaning) (ever : ℕ → List Version) (stands : Stands depth capacity m ever) where
  depth_some : 1 ≤ depth
  depth_some = omega (arith, stands.within_depth 0 refl, (stands.of_keys 0 refl).some)

  -- of a key, the kept versions rise strictly
  rises_of : (k : ℕ) → is_key k ≡ true → Rises (m.kept k)
  rises_of k key = let s = stands.of_keys k key in rises_end (ever k) (m.kept k) s.suffix s.rises

  -- of a key, everything is earlier than a timestamp after last
  before_of : (t k : ℕ) → m.last < t → is_key k ≡ true → Before t (ever k)
  before_of t k lt key = before_from_up_to m.last t (ever k) lt (stands.of_keys k key).up_to_last

  kept_before : (t k : ℕ) → m.last < t → is_key k ≡ true → Before t (m.kept k)
  kept_before t k lt key =
      before_from_up_to m.last t (m.kept k) lt (up_to_end m.last (ever k) (m.kept k) (stands.of_keys k key).suffix (stands.of_keys k key).up_to_last)

  -- a write that is fit gives its key its value
  written_of : (ws : List Write) (t : ℕ) → fit_writes ws ≡ true → m.last < t → (w : Write) → Has ws w → WrittenLaw depth (m.kept w.key) ((with_writes depth t ws m).kept w.key) (version_of t w.value)
  written_of ws t fit lt w has =
      let rising = fit_rises ws fit in
      let below : w.key < key_count = all-has (λ x. x.key < key_count) ws w (rising_keys 0 ws rising) has in
      let key : is_key w.key ≡ true = grind (arith, nat_tests) in
      let P : Option ℕ → Type 0 = λ o. WrittenLaw depth (m.kept w.key) (kept_with depth t o (m.kept w.key)) (version_of t w.value) in
      subst P (sym (written_each 0 ws rising w has)) (written_law depth depth_some (m.kept w.key) (version_of t w.value) (rises_of w.key key) (kept_before t w.key lt key))

  commit_law : (clock : ℕ) (ws : List Write) (t : ℕ) → commit_answer depth clock ws m ≡ Ok t → CommitLaw depth m (after_commit depth clock ws m) ever clock ws t
  commit_law clock ws t e =
      let a = accepted issued issued_laws depth clock ws m t e in
      let time = accepted_issued issued depth clock ws m t e in
      let P : Meaning → Type 0 = λ after. CommitLaw depth m after ever clock ws t in
      let left : after_commit depth clock ws m ≡ with_writes depth t ws m = ap (committed depth ws m) e in
      let law : P (with_writes depth t ws m) =
      record {
        after_last = a.after_last;
        after_all = λ k key. before_of t k a.after_last key;
        by_clock = issued_by_clock clock m.last t time;
        by_last = issued_by_last clock m.last t time;
        new_last = refl;
        of_written = written_of ws t (accepted_fit issued depth clock ws m t e) a.after_last;
        of_others = λ k other. ap (λ o. kept_with depth t o (m.kept k)) (unwritten k ws other);
      } in
      subst P (sym left) law

  -- how many versions fit writes would leave
  after_writes : (t : ℕ) (ws : List Write) → fit_writes ws ≡ true → versions_kept (with_writes depth t ws m) ≡ versions_kept m + versions_gained depth ws m
  after_writes t ws fit = versions_after depth depth_some m stands.within_depth t ws (fit_rises ws fit)

  no_room : (clock : ℕ) (ws : List Write) → commit_answer depth clock ws m ≡ Err (store_fault CapacityExceeded) → capacity < versions_kept m + versions_gained depth ws m
  no_room clock ws e =
      let r = refused_for_room depth clock ws m e in
      omega (arith, r.2, after_writes r.1 ws r.0, stands.same_capacity)

  no_more : (clock : ℕ) (ws : List Write) → fit_writes ws ≡ true → clock < open_end → m.last + 1 < open_end → capacity < versions_kept m + versions_gained depth ws m → commit_answer depth clock ws m ≡ Err (store_fault CapacityExceeded)
  no_more clock ws fit low left lt =
      let time = timed clock ws m.last fit low left in
      refused_beyond depth clock ws m time.0 time.1 (omega (arith, after_writes time.0 ws fit, stands.same_capacity))

  room : (clock : ℕ) (ws : List Write) → fit_writes ws ≡ true → clock < open_end → m.last + 1 < open_end → versions_kept m + versions_gained depth ws m ≤ capacity → is_ok (commit_answer depth clock ws m) ≡ true
  room clock ws fit low left le =
      let time = timed clock ws m.last fit low left in
      ap is_ok (accepted_within depth clock ws m time.0 time.1 (omega (arith, after_writes time.0 ws fit, stands.same_capacity)))

  pub law_from_stands : StoreLaw depth capacity m ever
  law_from_stands =
      record {
        same_capacity = stands.same_capacity;
        within_capacity = stands.within_capacity;
        within_depth = stands.within_depth;
        of_keys = λ k key. key_law m (ever k) k key (stands.of_keys k key);
        of_commits = commit_law;
        no_room = no_room;
        no_more = no_more;
        room = room;
        of_prunes = λ h k key. prune_law h m.last (m.kept k) (rises_of k key);
        same_last = λ h. refl;
      }

-- Calls.

-- a call adds what it gave to what the keys ever had
call_stands : (depth capacity : ℕ) (c : StoreCall) (m : Meaning) (ever : ℕ → List Version) → 1 ≤ depth → Stands depth capacity m ever → Stands depth capacity (after_store_call depth c m) (λ k. ever k ++ versions_from_call c (answer_of depth c m) k)
call_stands depth capacity call.Last m ever deep s = nothing_given_stands depth capacity m ever s
call_stands depth capacity (call.Version k t) m ever deep s = nothing_given_stands depth capacity m ever s
call_stands depth capacity (call.Commit clock ws) m ever deep s = after_commit_stands depth capacity m ever s clock ws.now deep
call_stands depth capacity (call.Prune h) m ever deep s = nothing_given_stands depth capacity (after_prune h m) ever (prune_stands depth capacity m ever s h)

pub calls_stand : (depth capacity : ℕ) (cs : List StoreCall) (m : Meaning) (ever : ℕ → List Version) → 1 ≤ depth → Stands depth capacity m ever → Stands depth capacity (after_store_calls depth cs m) (λ k. ever k ++ versions_from_calls cs (store_answers depth cs m) k)
calls_stand depth capacity [] m ever deep s = nothing_given_stands depth capacity m ever s
calls_stand depth capacity (c ∷ cs) m ever deep s =
    let b = answer_of depth c m in
    simp (← append_assoc) (calls_stand depth capacity cs (after_store_call depth c m) (λ k. ever k ++ versions_from_call c b k) deep (call_stands depth capacity c m ever deep s))

new_keeps : (depth capacity : ℕ) → 1 ≤ depth → key_count ≤ capacity → (calls : List StoreCall) → StoreLaw depth capacity (after_store_calls depth calls (new_store capacity)) (all_versions calls (store_answers depth calls (new_store capacity)))
new_keeps depth capacity deep room calls =
    law_from_stands depth capacity _ _ (calls_stand depth capacity calls (new_store capacity) (λ k. version_of 0 0 ∷ []) deep (new_stands depth capacity deep room))

pub calls_keep_laws : (depth : ℕ) → 1 ≤ depth → (calls : List StoreCall) (before after : Meaning) → after ≡ after_store_calls depth calls before → KeepsLaws depth calls before after
calls_keep_laws depth deep calls before after left capacity room new =
    let at : Meaning → Type 0 = λ m. StoreLaw depth capacity (after_store_calls depth calls m) (all_versions calls (store_answers depth calls m)) in
    let then : Meaning → Type 0 = λ m. StoreLaw depth capacity m (all_versions calls (store_answers depth calls before)) in
    subst then (sym left) (subst at (sym new) (new_keeps depth capacity deep room calls))

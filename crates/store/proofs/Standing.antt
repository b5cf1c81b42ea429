-- What stands of every store, told by what its keys ever had: a new store has it, and each call keeps it.
use Rattle.std.proofs.Common.{◌≡◌, ℕ, zero, suc, ◌+◌, ◌-◌, ◌<◌, ◌≤◌, min, max, true, List, [], ◌∷◌, ◌++◌, length, drop, Some, None, Ok, Err, Option, Result, refl, ap, ◌∙◌, arith}
use Rattle.std.specs.Result.{result_ok}
use Rattle.std.proofs.ByRecursion.{All-append}
use Rattle.std.proofs.lemmas.List.{append-nil, length-drop, length_push}
use Rattle.std.proofs.lemmas.Bool.{cond_both, le-leb, lt-leb}
use Rattle.std.proofs.lemmas.Bool.Decides.{nat_tests}
use Rattle.snapshot.specs.Limits.{open_end, key_count, is_key, is_timestamp}
use Rattle.snapshot.specs.declared.account.Write.{Write}
use Rattle.snapshot.specs.declared.fault.Fault.{Fault}
use Rattle.snapshot.specs.declared.fault.Refusal.TheVariants.{CapacityExceeded}
use Rattle.store.specs.Laws.{Rises, versions_of, IssuingLaws}
use Rattle.store.specs.Meaning.{Meaning, Issuing, version_of, new_store, fit_writes, issued, timestamp_by, timestamp_for, store_fault, written_to, kept_with, with_writes, versions_below, versions_kept, if_room, commit_answer_by, commit_answer, committed, after_commit, after_prune}
use Rattle.store.specs.declared.version.Version.{Version}
use Rattle.store.proofs.Versions.{UpTo, FromZero, EndOf, up_to_weaker, before_from_up_to, rises_push, from_zero_append, end_drop, end_append, outdated_not_all}

-- What stands.

-- of one key that keeps these versions and ever had those, in a store with this last timestamp
pub record KeyStands (last : ℕ) (kept ever : List Version) : Type 0 where
  -- at least one version is kept
  pub some : 1 ≤ length kept
  -- what is kept is the end of all that the key ever had
  pub suffix : EndOf ever kept
  -- all that it ever had rises strictly in time
  pub rises : Rises ever
  -- and begins at time 0
  pub from_zero : FromZero ever
  -- and is not later than last
  pub up_to_last : UpTo last ever

-- of a store of this depth and capacity, whose keys ever had these versions
pub record Stands (depth capacity : ℕ) (m : Meaning) (ever : ℕ → List Version) : Type 0 where
  -- the capacity is what it was
  pub same_capacity : m.capacity ≡ capacity
  -- all keys together keep no more versions than that
  pub within_capacity : versions_kept m ≤ capacity
  -- one key keeps no more than the depth
  pub within_depth : (k : ℕ) → is_key k ≡ true → length (m.kept k) ≤ depth
  -- what stands of one key
  pub of_keys : (k : ℕ) → is_key k ≡ true → KeyStands m.last (m.kept k) (ever k)

-- How many versions the keys below n keep together.

-- no more than n, where each keeps at most one
ones_below : (n : ℕ) (kept : ℕ → List Version) → ((k : ℕ) → length (kept k) ≤ 1) → versions_below n kept ≤ n
unfolding versions_below
ones_below zero kept one = omega arith
ones_below (suc n) kept one = omega (arith, ones_below n kept one, one n)

-- no more than before, where each keeps no more than before
fewer_below : (n : ℕ) (fewer kept : ℕ → List Version) → ((k : ℕ) → length (fewer k) ≤ length (kept k)) → versions_below n fewer ≤ versions_below n kept
unfolding versions_below
fewer_below zero fewer kept le = omega arith
fewer_below (suc n) fewer kept le = omega (arith, fewer_below n fewer kept le, le n)

-- One key.

-- its oldest versions are dropped, and not all
key_drop : (n last : ℕ) (kept ever : List Version) → n < length kept → KeyStands last kept ever → KeyStands last (drop n kept) ever
key_drop n last kept ever lt s =
    record {
      some = simp length-drop (omega arith);
      suffix = end_drop n ever kept s.suffix;
      rises = s.rises;
      from_zero = s.from_zero;
      up_to_last = s.up_to_last;
    }

-- nothing is given to it, and last grows
key_waits : (last t : ℕ) (kept ever : List Version) → last < t → KeyStands last kept ever → KeyStands t kept ever
key_waits last t kept ever lt s =
    record {
      some = s.some;
      suffix = s.suffix;
      rises = s.rises;
      from_zero = s.from_zero;
      up_to_last = up_to_weaker last t ever (omega arith) s.up_to_last;
    }

-- it is given a version later than last
key_push : (last t x : ℕ) (kept ever : List Version) → last < t → KeyStands last kept ever → KeyStands t (kept ++ (version_of t x ∷ [])) (ever ++ (version_of t x ∷ []))
key_push last t x kept ever lt s =
    let v : Version = version_of t x in
    record {
      some = simp length_push (omega arith);
      suffix = end_append ever kept (v ∷ []) s.suffix;
      rises = rises_push ever v s.rises (before_from_up_to last t ever lt s.up_to_last);
      from_zero = from_zero_append ever (v ∷ []) s.from_zero;
      up_to_last = All-append (λ w. w.timestamp ≤ t) ever (v ∷ []) (up_to_weaker last t ever (omega arith) s.up_to_last) (omega arith, tt);
    }

-- a commit at t writes it or not, and as many as the depth are left
key_commit : (depth last t : ℕ) (written : Option ℕ) (kept ever : List Version) → 1 ≤ depth → last < t → KeyStands last kept ever → KeyStands t (kept_with depth t written kept) (ever ++ versions_of (Some t) written)
key_commit depth last t None kept ever deep lt s = rw append-nil (key_waits last t kept ever lt s)
key_commit depth last t (Some x) kept ever deep lt s =
    let pushed = key_push last t x kept ever lt s in
    key_drop (length (kept ++ (version_of t x ∷ [])) - depth) t _ _ (omega arith) pushed

-- and so it keeps no more than the depth
depth_kept : (depth t : ℕ) (written : Option ℕ) (kept : List Version) → length kept ≤ depth → length (kept_with depth t written kept) ≤ depth
depth_kept depth t None kept le = le
depth_kept depth t (Some x) kept le = simp length-drop (omega arith)

-- A new store.

pub new_stands : (depth capacity : ℕ) → 1 ≤ depth → key_count ≤ capacity → Stands depth capacity (new_store capacity) (λ k. version_of 0 0 ∷ [])
new_stands depth capacity deep room =
    record {
      same_capacity = refl;
      within_capacity = omega (arith, ones_below key_count (new_store capacity).kept (λ k. cond_both (is_key k) _ _ (λ vs. length vs ≤ 1) (λ _. omega arith) (λ _. omega arith)));
      within_depth = λ k key. rw key deep;
      of_keys = λ k key. rw key (record { some = omega arith; suffix = ([], refl); rises = (tt, tt); from_zero = refl; up_to_last = (omega arith, tt) });
    }

-- A commit that is accepted.

-- what a commit that was accepted with this timestamp says
pub record Accepted (depth : ℕ) (ws : List Write) (m : Meaning) (t : ℕ) : Type 0 where
  -- there is room for what it leaves
  pub room : versions_kept (with_writes depth t ws m) ≤ m.capacity
  -- a commit can have the timestamp
  pub fits : is_timestamp t ≡ true
  -- it is later than last
  pub after_last : m.last < t

with_room : (depth : ℕ) (ws : List Write) (m : Meaning) (r : Result ℕ Fault) (t : ℕ) → if_room depth ws m r ≡ Ok t → (versions_kept (with_writes depth t ws m) ≤ m.capacity) × (r ≡ Ok t)
with_room depth ws m (Ok u) t e = grind (arith, nat_tests)
with_room depth ws m (Err f) t e = grind arith

fit_issued : (issue : Issuing) (clock : ℕ) (ws : List Write) (last t : ℕ) → timestamp_by issue clock ws last ≡ Ok t → issue clock last ≡ Ok t
fit_issued issue clock ws last t e = grind arith

-- its writes are fit
pub accepted_fit : (issue : Issuing) (depth clock : ℕ) (ws : List Write) (m : Meaning) (t : ℕ) → commit_answer_by issue depth clock ws m ≡ Ok t → fit_writes ws ≡ true
accepted_fit issue depth clock ws m t e =
    let issued = (with_room depth ws m (timestamp_by issue clock ws m.last) t e).1 in
    grind arith

-- its timestamp is one that was issued
pub accepted_issued : (issue : Issuing) (depth clock : ℕ) (ws : List Write) (m : Meaning) (t : ℕ) → commit_answer_by issue depth clock ws m ≡ Ok t → issue clock m.last ≡ Ok t
accepted_issued issue depth clock ws m t e =
    fit_issued issue clock ws m.last t (with_room depth ws m (timestamp_by issue clock ws m.last) t e).1

pub accepted : (issue : Issuing) → IssuingLaws issue → (depth clock : ℕ) (ws : List Write) (m : Meaning) (t : ℕ) → commit_answer_by issue depth clock ws m ≡ Ok t → Accepted depth ws m t
accepted issue laws depth clock ws m t e =
    let time = accepted_issued issue depth clock ws m t e in
    record {
      room = (with_room depth ws m (timestamp_by issue clock ws m.last) t e).0;
      fits = laws.fits clock m.last t time;
      after_last = laws.later clock m.last t time;
    }

-- A commit that is refused for want of room.

refused_at : (depth clock : ℕ) (ws : List Write) (m : Meaning) (r : Result ℕ Fault) → timestamp_for clock ws m.last ≡ r → if_room depth ws m r ≡ Err (store_fault CapacityExceeded) → (fit_writes ws ≡ true) × (t : ℕ) × (m.capacity < versions_kept (with_writes depth t ws m))
refused_at depth clock ws m (Ok t) time e = (grind arith, t, grind (arith, nat_tests))
refused_at depth clock ws m (Err f) time e = absurd (grind arith)

-- its writes are fit, and what they would leave exceeds the capacity
pub refused_for_room : (depth clock : ℕ) (ws : List Write) (m : Meaning) → commit_answer depth clock ws m ≡ Err (store_fault CapacityExceeded) → (fit_writes ws ≡ true) × (t : ℕ) × (m.capacity < versions_kept (with_writes depth t ws m))
refused_for_room depth clock ws m e = refused_at depth clock ws m (timestamp_for clock ws m.last) refl e

pub refused_beyond : (depth clock : ℕ) (ws : List Write) (m : Meaning) (t : ℕ) → timestamp_for clock ws m.last ≡ Ok t → m.capacity < versions_kept (with_writes depth t ws m) → commit_answer depth clock ws m ≡ Err (store_fault CapacityExceeded)
refused_beyond depth clock ws m t time lt = ap (if_room depth ws m) time ∙ rw (lt-leb (versions_kept (with_writes depth t ws m)) m.capacity lt) refl

pub accepted_within : (depth clock : ℕ) (ws : List Write) (m : Meaning) (t : ℕ) → timestamp_for clock ws m.last ≡ Ok t → versions_kept (with_writes depth t ws m) ≤ m.capacity → commit_answer depth clock ws m ≡ Ok t
accepted_within depth clock ws m t time le = ap (if_room depth ws m) time ∙ rw (le-leb (versions_kept (with_writes depth t ws m)) m.capacity le) refl

-- fit writes get a timestamp, where one is to be had
pub timed : (clock : ℕ) (ws : List Write) (last : ℕ) → fit_writes ws ≡ true → clock < open_end → last + 1 < open_end → (t : ℕ) × (timestamp_for clock ws last ≡ Ok t)
timed clock ws last fit low left = (max clock (last + 1), rw (fit, lt-leb open_end clock low, lt-leb open_end (last + 1) left) refl)

-- Timestamps as they are chosen.

pub issued_laws : IssuingLaws issued
issued_laws = record { fits = λ clock last t e. grind (arith, nat_tests); later = λ clock last t e. grind (arith, nat_tests) }

-- one is the clock reading, if that is later than last
pub issued_by_clock : (clock last t : ℕ) → issued clock last ≡ Ok t → last < clock → t ≡ clock
issued_by_clock clock last t e lt = grind (arith, nat_tests)

-- else it is one more than last
pub issued_by_last : (clock last t : ℕ) → issued clock last ≡ Ok t → clock ≤ last → t ≡ last + 1
issued_by_last clock last t e le = grind (arith, nat_tests)

-- The calls.

module _ (depth capacity : ℕ) (m : Meaning) (ever : ℕ → List Version) (stands : Stands depth capacity m ever) where
  -- a commit that is accepted gives each key that it writes a version
  pub commit_stands : (issue : Issuing) → IssuingLaws issue → (clock : ℕ) (ws : List Write) (t : ℕ) → 1 ≤ depth → commit_answer_by issue depth clock ws m ≡ Ok t → Stands depth capacity (with_writes depth t ws m) (λ k. ever k ++ versions_of (Some t) (written_to k ws))
  commit_stands issue laws clock ws t deep e =
      let a = accepted issue laws depth clock ws m t e in
      record {
        same_capacity = stands.same_capacity;
        within_capacity = omega arith;
        within_depth = λ k key. depth_kept depth t (written_to k ws) (m.kept k) (stands.within_depth k key);
        of_keys = λ k key. key_commit depth m.last t (written_to k ws) (m.kept k) (ever k) deep a.after_last (stands.of_keys k key);
      }

  -- a call that gives nothing
  pub nothing_given_stands : Stands depth capacity m (λ k. ever k ++ [])
  nothing_given_stands = simp append-nil stands

  by_answer : (clock : ℕ) (ws : List Write) (r : Result ℕ Fault) → 1 ≤ depth → commit_answer depth clock ws m ≡ r → Stands depth capacity (committed depth ws m r) (λ k. ever k ++ versions_of (result_ok r) (written_to k ws))
  by_answer clock ws (Ok t) deep e = commit_stands issued issued_laws clock ws t deep e
  by_answer clock ws (Err f) deep e = nothing_given_stands

  -- any commit
  pub after_commit_stands : (clock : ℕ) (ws : List Write) → 1 ≤ depth → Stands depth capacity (after_commit depth clock ws m) (λ k. ever k ++ versions_of (result_ok (commit_answer depth clock ws m)) (written_to k ws))
  after_commit_stands clock ws deep = by_answer clock ws (commit_answer depth clock ws m) deep refl

  pub prune_stands : (h : ℕ) → Stands depth capacity (after_prune h m) ever
  prune_stands h =
      let fewer : (k : ℕ) → length ((after_prune h m).kept k) ≤ length (m.kept k) = λ k. simp length-drop (omega arith) in
      record {
        same_capacity = stands.same_capacity;
        within_capacity = omega (arith, fewer_below key_count (after_prune h m).kept m.kept fewer);
        within_depth = λ k key. omega (arith, fewer k, stands.within_depth k key);
        of_keys = λ k key.
            let of_key = stands.of_keys k key in
            key_drop _ m.last (m.kept k) (ever k) (outdated_not_all (min h m.last) (m.kept k) of_key.some) of_key;
      }

-- A new store has the meaning of one, and writes leave the meaning that a commit of depth 1 should, with room for it.
use Rattle.std.proofs.Common.{◌≡◌, ℕ, zero, suc, ◌≤◌, Bool, true, false, if◌then◌else◌, leb, List, [], ◌∷◌, length, get_or, replicate, Some, None, Option, refl, ap, ◌∙◌, subst, arith}
use Rattle.std.proofs.lemmas.Bool.{cond_both, le-leb}
use Rattle.snapshot.specs.Accounts.{rising_from}
use Rattle.snapshot.specs.Limits.{key_count, is_key}
use Rattle.snapshot.specs.declared.account.Write.{Write}
use Rattle.store.specs.Meaning.{Meaning, version_of, new_store, written_to, kept_with, with_writes, versions_below, versions_kept}
use Rattle.store.specs.declared.version.Version.{Version}
use Rattle.newest_store.specs.Newest.{newest_meaning, version_at, version_with}
use Rattle.newest_store.specs.declared.newest.Newest.{Newest}
use Rattle.store.proofs.Writes.{rising_keys, unwritten_past}

abbrev newest_of : ℕ → List Version → Newest
newest_of t vs = record { last = t; versions = vs }

-- A new store.

-- a list that repeats one element has that element everywhere
repeated_everywhere : {X : Type 0} (x : X) (n k : ℕ) → get_or (replicate n x) k x ≡ x
repeated_everywhere x zero k = refl
repeated_everywhere x (suc n) zero = refl
repeated_everywhere x (suc n) (suc k) = repeated_everywhere x n k

pub new_meaning : newest_meaning (newest_of 0 (replicate key_count (version_of 0 0))) ≡ new_store key_count
new_meaning =
    λ i. record {
      last = 0;
      capacity = key_count;
      kept = λ k. if is_key k then repeated_everywhere (version_of 0 0) key_count k i ∷ [] else [];
    }

-- Room: one version of each key.

ones_below : (n : ℕ) (kept : ℕ → List Version) → ((k : ℕ) → length (kept k) ≤ 1) → versions_below n kept ≤ n
unfolding versions_below
ones_below zero kept one = omega arith
ones_below (suc n) kept one = omega (arith, ones_below n kept one, one n)

room : (s : Newest) → versions_kept (newest_meaning s) ≤ key_count
room s =
    ones_below key_count (newest_meaning s).kept (λ k. cond_both (is_key k) _ _ (λ vs. length vs ≤ 1) (λ _. omega arith) (λ _. omega arith))

-- A commit.

-- of one key, where a number that is no key is not written
kept_newest : (key : Bool) (t : ℕ) (written : Option ℕ) (v : Version) → (key ≡ false → written ≡ None) → (if key then version_with t written v ∷ [] else []) ≡ kept_with 1 t written (if key then v ∷ [] else [])
kept_newest true t None v gone = refl
kept_newest true t (Some x) v gone = refl
kept_newest false t written v gone = rw (gone refl)

-- the keys of the writes rise, and each key has the version that was written to it
module _ (t : ℕ) (ws : List Write) (s : Newest) (vs : List Version) (rising : rising_from 0 ws ≡ true) (put : (k : ℕ) → version_at k vs ≡ version_with t (written_to k ws) (version_at k s.versions)) where
  abbrev m : Meaning
  m = newest_meaning s

  kept_after : (k : ℕ) → (newest_meaning (newest_of t vs)).kept k ≡ kept_with 1 t (written_to k ws) (m.kept k)
  kept_after k =
      ap (λ v. if is_key k then v ∷ [] else []) (put k)
      ∙ kept_newest (is_key k) t (written_to k ws) (version_at k s.versions) (λ past. unwritten_past k ws past (rising_keys 0 ws rising))

  pub with_writes_lem : newest_meaning (newest_of t vs) ≡ with_writes 1 t ws m
  with_writes_lem = λ i. record { last = t; capacity = key_count; kept = λ k. kept_after k i }

  pub room_after : leb (versions_kept (with_writes 1 t ws m)) key_count ≡ true
  room_after = let P : Meaning → Type 0 = λ n. versions_kept n ≤ key_count in le-leb _ _ (subst P with_writes_lem (room (newest_of t vs)))

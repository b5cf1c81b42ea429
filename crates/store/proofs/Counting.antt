-- How many versions a commit adds: one for each write to a key that keeps fewer than the depth.
use Rattle.std.proofs.Common.{◌≡◌, ℕ, zero, suc, ◌+◌, ◌<◌, ◌≤◌, Bool, true, if◌then◌else◌, ◌&&◌, nat_lt, List, [], ◌∷◌, length, filter, Some, None, Option, refl, ap, ◌∙◌, arith}
use Rattle.std.specs.List.{AllByRecursion}
use Rattle.std.proofs.lemmas.List.{length-drop, length_push}
use Rattle.std.proofs.lemmas.Bool.Decides.{nat_tests}
use Rattle.snapshot.specs.Accounts.{rising_from}
use Rattle.snapshot.specs.Limits.{key_count, is_key}
use Rattle.snapshot.specs.declared.account.Write.{Write}
use Rattle.store.specs.Laws.{versions_gained}
use Rattle.store.specs.Meaning.{Meaning, written_to, kept_with, with_writes, versions_below, versions_kept}
use Rattle.store.specs.declared.version.Version.{Version}
use Rattle.store.proofs.Writes.{rising_later, rising_keys}

module _ (depth : ℕ) (deep : 1 ≤ depth) (kept : ℕ → List Version) (within : (k : ℕ) → is_key k ≡ true → length (kept k) ≤ depth) where
  -- a key has room below the depth
  abbrev short : ℕ → Bool
  short k = nat_lt (length (kept k)) depth

  -- what a write of a key below n adds
  abbrev gain : ℕ → Write → ℕ
  gain n w = if nat_lt w.key n && short w.key then 1 else 0

  -- what the writes of keys below n add
  abbrev gains : ℕ → List Write → ℕ
  gains n [] = 0
  gains n (w ∷ ws) = gain n w + gains n ws

  -- what one key gains
  abbrev key_gain : ℕ → Option ℕ → ℕ
  key_gain k None = 0
  key_gain k (Some x) = if short k then 1 else 0

  none_above : (n least : ℕ) (ws : List Write) → n ≤ least → rising_from least ws ≡ true → gains n ws ≡ 0
  none_above n least [] le e = refl
  none_above n least (w ∷ ws) le e =
      let lt : least ≤ w.key = grind (arith, nat_tests) in
      let rest = none_above n (suc w.key) ws (omega arith) (rising_later least w ws e) in
      grind (arith, nat_tests)

  one_key_more : (n least : ℕ) (ws : List Write) → rising_from least ws ≡ true → gains (suc n) ws ≡ gains n ws + key_gain n (written_to n ws)
  one_key_more n least [] e = refl
  one_key_more n least (w ∷ ws) e =
      let later = rising_later least w ws e in
      let rest = one_key_more n (suc w.key) ws later in
      let none = λ (le : suc n ≤ suc w.key). none_above (suc n) (suc w.key) ws le later in
      grind (arith, nat_tests)

  kept_more : (t k : ℕ) (o : Option ℕ) → length (kept k) ≤ depth → length (kept_with depth t o (kept k)) ≡ length (kept k) + key_gain k o
  kept_more t k None le = omega arith
  kept_more t k (Some x) le =
      simp (length-drop, length_push) (grind (arith, nat_tests))

  below_more : (t n : ℕ) (ws : List Write) → n ≤ key_count → rising_from 0 ws ≡ true → versions_below n (λ k. kept_with depth t (written_to k ws) (kept k)) ≡ versions_below n kept + gains n ws
  unfolding versions_below
  below_more t zero ws le e = omega (arith, none_above 0 0 ws (omega arith) e)
  below_more t (suc n) ws le e =
      let key : is_key n ≡ true = grind (arith, nat_tests) in
      omega (arith, below_more t n ws (omega arith) e, kept_more t n (written_to n ws) (within n key), one_key_more n 0 ws e)

  gains_all : (n : ℕ) (ws : List Write) → AllByRecursion (λ w. w.key < n) ws → gains n ws ≡ length (filter (λ w. short w.key) ws)
  gains_all n [] below = refl
  gains_all n (w ∷ ws) below =
      let rest = gains_all n ws below.1 in
      let lt = below.0 in
      grind (arith, nat_tests)

-- a commit makes as many versions more as it gains
pub versions_after : (depth : ℕ) → 1 ≤ depth → (m : Meaning) → ((k : ℕ) → is_key k ≡ true → length (m.kept k) ≤ depth) → (t : ℕ) (ws : List Write) → rising_from 0 ws ≡ true → versions_kept (with_writes depth t ws m) ≡ versions_kept m + versions_gained depth ws m
versions_after depth deep m within t ws rising =
    below_more depth deep m.kept within t key_count ws (omega arith) rising
    ∙ ap (λ n. versions_kept m + n) (gains_all depth deep m.kept within key_count ws (rising_keys 0 ws rising))

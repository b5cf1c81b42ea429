-- Writes that a commit takes: their keys rise strictly and lie in range, so that each key is written at most once.
use Rattle.std.proofs.Common.{◌≡◌, ℕ, zero, suc, ◌<◌, ◌≤◌, true, false, ◌&&◌, leb, nat_le, List, [], ◌∷◌, length, Some, None, refl, subst, le_of_suc-le-suc, not-suc-le-zero, arith}
use Rattle.std.specs.List.{ContainsAt as Has, AllByRecursion}
use Rattle.std.proofs.ByRecursion.{all-has, All-weaker}
use Rattle.std.proofs.lemmas.Bool.{and_parts}
use Rattle.std.proofs.lemmas.Bool.Decides.{nat_tests}
use Rattle.snapshot.specs.Accounts.{rising_from}
use Rattle.snapshot.specs.Limits.{key_count, write_keys, is_key}
use Rattle.snapshot.specs.declared.account.Write.{Write}
use Rattle.store.specs.Meaning.{fit_writes, written_to}

pub fit_rises : (ws : List Write) → fit_writes ws ≡ true → rising_from 0 ws ≡ true
fit_rises ws e = (and_parts (nat_le 1 (length ws) && nat_le (length ws) write_keys) (rising_from 0 ws) e).1

pub fit_some : (ws : List Write) → fit_writes ws ≡ true → 1 ≤ length ws
fit_some ws e = grind (arith, nat_tests)

pub rising_later : (least : ℕ) (w : Write) (ws : List Write) → rising_from least (w ∷ ws) ≡ true → rising_from (suc w.key) ws ≡ true
rising_later least w ws e = (and_parts (leb least w.key && is_key w.key) (rising_from (suc w.key) ws) e).1

pub rising_keys : (least : ℕ) (ws : List Write) → rising_from least ws ≡ true → AllByRecursion (λ w. w.key < key_count) ws
rising_keys least [] e = tt
rising_keys least (w ∷ ws) e = (grind (arith, nat_tests), rising_keys (suc w.key) ws (rising_later least w ws e))

-- a key below the least is not written
pub unwritten_below : (k least : ℕ) (ws : List Write) → k < least → rising_from least ws ≡ true → written_to k ws ≡ None
unwritten_below k least [] lt e = refl
unwritten_below k least (w ∷ ws) lt e =
    let le : least ≤ w.key = grind (arith, nat_tests) in
    let rest = unwritten_below k (suc w.key) ws (omega arith) (rising_later least w ws e) in
    grind (arith, nat_tests)

-- a number that is no key is not written
pub unwritten_past : (k : ℕ) (ws : List Write) → is_key k ≡ false → AllByRecursion (λ w. w.key < key_count) ws → written_to k ws ≡ None
unwritten_past k [] past below = refl
unwritten_past k (w ∷ ws) past below =
    let rest = unwritten_past k ws past below.1 in
    grind (arith, nat_tests, below.0)

-- The writes one by one.

rising_least : (least : ℕ) (ws : List Write) → rising_from least ws ≡ true → AllByRecursion (λ w. least ≤ w.key) ws
rising_least least [] e = tt
rising_least least (w ∷ ws) e =
    (grind (arith, nat_tests), All-weaker (λ v. suc w.key ≤ v.key) (λ v. least ≤ v.key) (λ v le. grind (arith, nat_tests)) ws (rising_least (suc w.key) ws (rising_later least w ws e)))

-- each gives its key its value
pub written_each : (least : ℕ) (ws : List Write) → rising_from least ws ≡ true → (w : Write) → Has ws w → written_to w.key ws ≡ Some w.value
written_each least [] e w has = absurd (not-suc-le-zero has.1)
written_each least (v ∷ ws) e w (zero, lt, at) =
    let P : Write → Type 0 = λ x. written_to x.key (v ∷ ws) ≡ Some x.value in
    let own : written_to v.key (v ∷ ws) ≡ Some v.value = grind (arith, nat_tests) in
    subst P (at v) own
written_each least (v ∷ ws) e w (suc i, lt, at) =
    let has : Has ws w = (i, le_of_suc-le-suc lt, at) in
    let rising = rising_later least v ws e in
    let above : suc v.key ≤ w.key = all-has (λ x. suc v.key ≤ x.key) ws w (rising_least (suc v.key) ws rising) has in
    let rest = written_each (suc v.key) ws rising w has in
    grind (arith, nat_tests)

-- and no other key is written
pub unwritten : (k : ℕ) (ws : List Write) → AllByRecursion (λ w. w.key ≡ k → ⊥) ws → written_to k ws ≡ None
unwritten k [] other = refl
unwritten k (w ∷ ws) other =
    let rest = unwritten k ws other.1 in
    let no = other.0 in
    grind (arith, nat_tests)

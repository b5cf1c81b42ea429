-- What remains when each key drops its first records: how many there are, and how many of each key.
use Rattle.std.proofs.Common.{◌≡◌, ℕ, zero, suc, ◌+◌, ◌-◌, ◌≤◌, true, List, [], ◌∷◌, length, Some, None, Option, refl, ap, ◌∙◌, sym, arith}
use Rattle.std.specs.List.{list_all}
use Rattle.std.proofs.lemmas.Bool.{cond_both, cond-true, cond-false}
use Rattle.std.proofs.lemmas.List.{length-drop}
use Rattle.snapshot.specs.Limits.{is_key, key_count}
use Rattle.snapshot.specs.declared.account.Write.{Write}
use Rattle.store.specs.Meaning.{outdated, some_up_to, versions_below, written_to}
use Rattle.store.specs.declared.version.Version.{Version}
use Rattle.records.proofs.Layouts.{all_left, of_key_left, versions_together}
use Rattle.records.proofs.Counting.{Numbers, counted}
use Rattle.records.specs.PerKeys.{number_for, per_key, total_below, total_of}
use Rattle.records.proofs.Changes.{excess}
use Rattle.records.specs.Records.{drop_firsts, of_key}
use Rattle.records.specs.declared.per_key.PerKey.{PerKey}
use Rattle.records.specs.declared.record.Record.{Record}

fewer_below : (n : ℕ) (kept left : ℕ → List Version) (e : ℕ → ℕ) → ((k : ℕ) → length (left k) + e k ≡ length (kept k)) → versions_below n left + total_below n e ≡ versions_below n kept
unfolding versions_below total_below
fewer_below zero kept left e each = refl
fewer_below (suc n) kept left e each = omega (arith, fewer_below n kept left e each, each n)

-- as many fewer of a key as it drops
pub count_left : (e : ℕ → ℕ) (rs : List Record) (k : ℕ) → length (of_key k (drop_firsts e rs)) ≡ length (of_key k rs) - e k
count_left e rs k = ap length (of_key_left k e rs) ∙ length-drop (e k) (of_key k rs)

-- where each key has as many as it drops, as many fewer in all as all keys drop together
pub left_length : (e : ℕ → ℕ) (rs : List Record) → list_all (λ r. is_key r.key) rs ≡ true → ((k : ℕ) → e k ≤ length (of_key k rs)) → length (drop_firsts e rs) + total_of e ≡ length rs
left_length e rs keyed enough =
    let before = versions_together rs keyed in
    let after = versions_together (drop_firsts e rs) (all_left (λ r. is_key r.key) e rs keyed) in
    omega (arith, before, after, fewer_below key_count (λ k. of_key k rs) (λ k. of_key k (drop_firsts e rs)) e (λ k. omega (arith, count_left e rs k, enough k)))

-- the numbers of what remains
pub left_counts : (p q : PerKey) (e : ℕ → ℕ) (rs : List Record) → Numbers p (counted rs) → ((k : ℕ) → number_for q k ≡ number_for p k - e k) → Numbers q (counted (drop_firsts e rs))
left_counts p q e rs counts fewer k =
    fewer k ∙ ap (λ n. n - e k) (counts k)
    ∙ cond_both (is_key k) (counted rs k) 0 (λ n. n - e k ≡ per_key (counted (drop_firsts e rs)) k)
    (λ key. sym (count_left e rs k) ∙ sym (cond-true (is_key k) (counted (drop_firsts e rs) k) 0 key))
    (λ past. let none : 0 - e k ≡ 0 = omega arith in none ∙ sym (cond-false (is_key k) (counted (drop_firsts e rs) k) 0 past))

-- A commit's and a prune's numbers are never more than a key has.
excess_le : (depth : ℕ) (o : Option ℕ) (vs : List Version) → excess depth o vs ≤ length vs
excess_le depth None vs = omega arith
excess_le depth (Some x) vs = omega arith

outdated_le : (h : ℕ) (vs : List Version) → outdated h vs ≤ length vs
outdated_le h [] = omega arith
outdated_le h (v ∷ vs) = cond_both (some_up_to h vs) (suc (outdated h vs)) 0 (λ n. n ≤ suc (length vs)) (λ _. omega (arith, outdated_le h vs)) (λ _. omega arith)

per_key_le : (f : ℕ → ℕ) (k n : ℕ) → f k ≤ n → per_key f k ≤ n
per_key_le f k n le = cond_both (is_key k) (f k) 0 (λ m. m ≤ n) (λ _. le) (λ _. omega arith)

pub excess_within : (depth : ℕ) (ws : List Write) (rs : List Record) (k : ℕ) → per_key (λ j. excess depth (written_to j ws) (of_key j rs)) k ≤ length (of_key k rs)
excess_within depth ws rs k = per_key_le (λ j. excess depth (written_to j ws) (of_key j rs)) k (length (of_key k rs)) (excess_le depth (written_to k ws) (of_key k rs))

pub outdated_within : (h : ℕ) (rs : List Record) (k : ℕ) → per_key (λ j. outdated h (of_key j rs)) k ≤ length (of_key k rs)
outdated_within h rs k = per_key_le (λ j. outdated h (of_key j rs)) k (length (of_key k rs)) (outdated_le h (of_key k rs))

-- How many versions the written keys drop, by their numbers.
use Rattle.std.proofs.Common.{◌≡◌, ℕ, ◌+◌, ◌-◌, ◌<◌, true, List, length, get_or, slice_index, take, Some, None, Option, sym, refl, ap, ◌∙◌, arith}
use Rattle.std.specs.Option.{option_or}
use Rattle.std.proofs.lemmas.Bool.{cond_both, cond-true, cond-false}
use Rattle.snapshot.proofs.Zeros.{zero_write}
use Rattle.snapshot.specs.Accounts.{rising_from}
use Rattle.snapshot.specs.Limits.{is_key, key_count}
use Rattle.snapshot.specs.declared.account.Write.{Write}
use Rattle.store.specs.Meaning.{written_to}
use Rattle.store.specs.declared.version.Version.{Version}
use Rattle.records.proofs.Counting.{counted, set_more, unwritten_before, written_elsewhere, written_here, written_keys}
use Rattle.records.proofs.Totals.{total_change}
use Rattle.records.specs.PerKeys.{number_for, per_key, total_of, with}
use Rattle.records.proofs.Changes.{excess}
use Rattle.records.specs.Records.{of_key}
use Rattle.records.specs.declared.per_key.PerKey.{PerKey}
use Rattle.records.specs.declared.record.Record.{Record}
use Rattle.records.specs.Counts.{CountsOf, excess_for}

excess_at : (depth : ℕ) (o : Option ℕ) (vs : List Version) → excess depth o vs ≡ excess_for depth o (length vs)
excess_at depth None vs = refl
excess_at depth (Some x) vs = refl

excess_none : (depth : ℕ) (o : Option ℕ) → excess_for depth o 0 ≡ 0
excess_none depth None = refl
excess_none depth (Some x) = omega arith

-- what each key drops for the writes follows from how many versions it has
pub excess_is : (depth : ℕ) (ws : List Write) (p : PerKey) (rs : List Record) → CountsOf p rs → (k : ℕ) → per_key (λ j. excess depth (written_to j ws) (of_key j rs)) k ≡ excess_for depth (written_to k ws) (number_for p k)
excess_is depth ws p rs counts k =
    cond_both (is_key k) (excess depth (written_to k ws) (of_key k rs)) 0 (λ n. n ≡ excess_for depth (written_to k ws) (number_for p k))
    (λ key. excess_at depth (written_to k ws) (of_key k rs) ∙ ap (excess_for depth (written_to k ws)) (sym (counts k ∙ cond-true (is_key k) (counted rs k) 0 key)))
    (λ past. sym (ap (excess_for depth (written_to k ws)) (counts k ∙ cond-false (is_key k) (counted rs k) 0 past) ∙ excess_none depth (written_to k ws)))

-- A key that is written drops what is too much, whichever write it is.
excess_written : (depth : ℕ) (o : Option ℕ) (x n : ℕ) → excess_for depth (option_or o (Some x)) n ≡ n - (depth - 1)
excess_written depth None x n = refl
excess_written depth (Some y) x n = refl

-- what each key drops for these writes
abbrev pub dropped : ℕ → List Write → PerKey → ℕ → ℕ
dropped depth ws counts k = excess_for depth (written_to k ws) (number_for counts k)

pub of_keys : (depth : ℕ) (ws : List Write) (counts : PerKey) (k : ℕ) → per_key (dropped depth ws counts) k ≡ dropped depth ws counts k
of_keys depth ws counts k =
    cond_both (is_key k) (dropped depth ws counts k) 0 (λ n. n ≡ dropped depth ws counts k)
    (λ key. refl)
    (λ past. sym (ap (excess_for depth (written_to k ws)) (cond-false (is_key k) (slice_index counts.numbers k) 0 past) ∙ excess_none depth (written_to k ws)))

-- one write more
module _ (depth : ℕ) (ws : List Write) (counts : PerKey) (i : ℕ) (lt : i < length ws) where
  abbrev w : Write
  w = get_or ws i zero_write

  dropped_here : dropped depth (take (i + 1) ws) counts w.key ≡ number_for counts w.key - (depth - 1)
  dropped_here = ap (λ o. excess_for depth o (number_for counts w.key)) (written_here ws i lt) ∙ excess_written depth (written_to w.key (take i ws)) w.value (number_for counts w.key)

  dropped_elsewhere : (k : ℕ) → (w.key ≡ k → ⊥) → dropped depth (take (i + 1) ws) counts k ≡ dropped depth (take i ws) counts k
  dropped_elsewhere k ne = ap (λ o. excess_for depth o (number_for counts k)) (written_elsewhere ws i lt k ne)

  pub excess_set :
      (p q : PerKey) → ((k : ℕ) → number_for p k ≡ dropped depth (take i ws) counts k) →
      ((k : ℕ) → number_for q k ≡ with (number_for p) w.key (number_for counts w.key - (depth - 1)) k) → (k : ℕ) → number_for q k ≡ dropped depth (take (i + 1) ws) counts k
  excess_set p q old made k =
      set_more p q (dropped depth (take i ws) counts) (dropped depth (take (i + 1) ws) counts) w.key (number_for counts w.key - (depth - 1))
      (λ j. old j ∙ sym (of_keys depth (take i ws) counts j)) made (λ _. dropped_here) dropped_elsewhere k
      ∙ of_keys depth (take (i + 1) ws) counts k

  -- and so the total grows by what its key drops
  pub total_step : rising_from 0 ws ≡ true → total_of (dropped depth (take (i + 1) ws) counts) ≡ total_of (dropped depth (take i ws) counts) + (number_for counts w.key - (depth - 1))
  total_step rising =
      let before : dropped depth (take i ws) counts w.key ≡ 0 = ap (λ o. excess_for depth o (number_for counts w.key)) (unwritten_before 0 ws i rising lt) in
      let grown = total_change key_count (dropped depth (take i ws) counts) (dropped depth (take (i + 1) ws) counts) w.key (written_keys 0 ws i rising lt) dropped_elsewhere in
      omega (arith, grown, before, dropped_here)

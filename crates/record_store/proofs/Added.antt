-- One record more after the first ones, and the number of its key.
use Rattle.std.proofs.Common.{◌≡◌, ℕ, ◌+◌, ◌<◌, List, [], length, get_or, take, set, sym, refl, ap, ◌∙◌, subst, arith}
use Rattle.std.proofs.lemmas.List.{take-set, get_or-set_same, length-set}
use Rattle.std.proofs.lemmas.Bool.{cond_both}
use Rattle.snapshot.specs.Limits.{is_key}
use Rattle.records.proofs.Counting.{count_more}
use Rattle.records.specs.PerKeys.{number_for, with}
use Rattle.records.specs.Records.{no_record}
use Rattle.records.specs.declared.per_key.PerKey.{PerKey}
use Rattle.records.specs.declared.record.Record.{Record}
use Rattle.records.specs.Counts.{CountsOf}

pub added_counts :
    (rs : List Record) (kept : ℕ) (new : Record) → kept < length rs → (p q : PerKey) (n : ℕ) → CountsOf p (take kept rs) → n ≡ number_for p new.key →
    ((k : ℕ) → number_for q k ≡ with (number_for p) new.key (n + 1) k) → CountsOf q (take (kept + 1) (set rs kept new))
added_counts rs kept new lt p q n old count made =
    let here : get_or (set rs kept new) kept no_record ≡ new = get_or-set_same rs kept new no_record lt in
    let fits : kept < length (set rs kept new) = omega (arith, lt, length-set rs kept new) in
    count_more (set rs kept new) kept fits p q n
    (subst (CountsOf p) (sym (take-set rs kept new)) old)
    (count ∙ ap (λ r. number_for p r.key) (sym here))
    (λ k. made k ∙ ap (λ r. with (number_for p) r.key (n + 1) k) (sym here))

-- no numbers are those of no records
pub none_counted : (p : PerKey) → ((k : ℕ) → number_for p k ≡ 0) → CountsOf p []
none_counted p none k = none k ∙ sym (cond_both (is_key k) 0 0 (λ n. n ≡ 0) (λ _. refl) (λ _. refl))

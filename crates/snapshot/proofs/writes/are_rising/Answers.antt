-- Two looks at the writes: whether each key is below the next, and whether all are in range.
use Rattle.std.proofs.Common.{◌≡◌, ◌&&◌, rules, tests, sym, ap, ◌∙◌}
use Rattle.std.specs.List.{list_all}
use Rattle.std.proofs.lemmas.Iterator.{YieldsList-from_slice}
use Rattle.std.proofs.lemmas.Iterator.Search.{all_from_yields_List}
use Rattle.std.proofs.lemmas.List.Sorted.{answers_always}
use Rattle.snapshot.proofs.Risings.{has_fit_key, is_below, rising_by_two_looks}
use Rattle.snapshot.proofs.writes.are_rising.Goals as goal

pub returns-then-is_sorted_by-clause-value : goal.returns-then-is_sorted_by-clause-value
returns-then-is_sorted_by-clause-value c =
    let ws = c.args.writes.now in
    let sorted = c.is_sorted_by.ensures.cases is_below (answers_always _ _ _ (λ f a r f' k. search rules)) in
    let in_range : c.all.result ≡ list_all has_fit_key ws =
    all_from_yields_List has_fit_key _ _ _ c.all.ensures.ran (YieldsList-from_slice ws cc) (λ x b q k. search (rules, tests)) in
    in_range
    ∙ sym (ap (λ b. b && list_all has_fit_key ws) c.if-is_sorted_by.true)
    ∙ rising_by_two_looks ws c.is_sorted_by.result sorted

pub returns-else-is_sorted_by-clause-value : goal.returns-else-is_sorted_by-clause-value
returns-else-is_sorted_by-clause-value c =
    let ws = c.args.writes.now in
    let sorted = c.is_sorted_by.ensures.cases is_below (answers_always _ _ _ (λ f a r f' k. search rules)) in
    c.if-is_sorted_by.false
    ∙ sym (ap (λ b. b && list_all has_fit_key ws) c.if-is_sorted_by.false)
    ∙ rising_by_two_looks ws c.is_sorted_by.result sorted

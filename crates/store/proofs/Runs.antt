-- The end of a run of calls: where none is left, nothing more is answered and nothing changes.
use Rattle.std.proofs.Common.{◌≡◌, ℕ, ◌≤◌, List, ◌++◌, length, drop, ap, ◌∙◌}
use Rattle.std.proofs.lemmas.List.{append-nil, at_drop_all}
use Rattle.store.specs.Meaning.{Meaning}
use Rattle.store.specs.Calls.{store_answers, after_store_calls}
use Rattle.store.specs.declared.calls.StoreAnswer.{StoreAnswer}
use Rattle.store.specs.declared.calls.StoreCall.{StoreCall}

module _ (depth : ℕ) (calls : List StoreCall) (i : ℕ) (past : length calls ≤ i) (m : Meaning) where
  pub answers_all : (old : List StoreAnswer) → old ++ store_answers depth (drop i calls) m ≡ old
  answers_all old = ap (λ xs. old ++ xs) (at_drop_all (λ cs. store_answers depth cs m) calls i past) ∙ append-nil old

  pub after_all_calls : after_store_calls depth (drop i calls) m ≡ m
  after_all_calls = at_drop_all (λ cs. after_store_calls depth cs m) calls i past

-- A store's calls as values: what each answers, and what it leaves.
use Rattle.std.specs.Prelude.{ℕ, List, [], ◌∷◌}
use Rattle.store.specs.Meaning.{Meaning, version_answer, commit_answer, after_commit, after_prune}
use Rattle.store.specs.declared.calls.StoreCall.{StoreCall}
use Rattle.store.specs.declared.calls.StoreCall.TheVariants as call
use Rattle.store.specs.declared.calls.StoreAnswer.{StoreAnswer}
use Rattle.store.specs.declared.calls.StoreAnswer.TheVariants as answer

abbrev pub answer_of : ℕ → StoreCall → Meaning → StoreAnswer
answer_of depth call.Last m = answer.Last m.last
answer_of depth (call.Version k s) m = answer.Version (version_answer m k s)
answer_of depth (call.Commit c ws) m = answer.Commit (commit_answer depth c ws.now m)
answer_of depth (call.Prune h) m = answer.Prune

abbrev pub after_store_call : ℕ → StoreCall → Meaning → Meaning
after_store_call depth call.Last m = m
after_store_call depth (call.Version k s) m = m
after_store_call depth (call.Commit c ws) m = after_commit depth c ws.now m
after_store_call depth (call.Prune h) m = after_prune h m

-- the answers to a list of calls, and what they leave
abbrev pub store_answers : ℕ → List StoreCall → Meaning → List StoreAnswer
store_answers depth [] m = []
store_answers depth (c ∷ cs) m = answer_of depth c m ∷ store_answers depth cs (after_store_call depth c m)

abbrev pub after_store_calls : ℕ → List StoreCall → Meaning → Meaning
after_store_calls depth [] m = m
after_store_calls depth (c ∷ cs) m = after_store_calls depth cs (after_store_call depth c m)

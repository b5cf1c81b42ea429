-- The calls are performed on a new engine; the store's own law tells what its memory then holds.
use Rattle.std.proofs.Common.{◌≡◌, ◌++◌, MatchResult, refl, ap, subst, subst₂, ◌∙◌}
use Rattle.std.proofs.lemmas.Result.{MatchResult-weaker}
use Rattle.engine.specs.Performing.{engine_after_calls, answers_to}
use Rattle.engine.proofs.TraceLemmas.{run_keeps_law}
use Rattle.engine.proofs.runs.run_over.Goals as goal

pub returns-clause-answers : goal.returns-clause-answers
returns-clause-answers g c =
    let before = c.args.answers.now.items in
    let after = c.perform_all.new.answers.items in
    subst
    (λ s. MatchResult c.perform_all.result (λ _. after ≡ before ++ answers_to g.S.Store.DEPTH c.args.calls.now s) (λ _. after ≡ before))
    (c.new.ensures (g.S.Reads.meaning c.args.store.now)) c.perform_all.ensures.answers

pub returns-clause-after : goal.returns-clause-after
returns-clause-after g c =
    let new = c.new.ensures (g.S.Reads.meaning c.args.store.now) in
    MatchResult-weaker c.perform_all.result c.perform_all.ensures.after
    (λ _ is. ap (λ s. s.store) is ∙ ap (λ s. (engine_after_calls g.S.Store.DEPTH c.args.calls.now s).store) new)
    (λ _ same. same.0)

pub returns-clause-law : goal.returns-clause-law
returns-clause-law g c =
    MatchResult-weaker c.perform_all.result c.perform_all.ensures.after
    (λ _ _. run_keeps_law g.S.Store.DEPTH c.args.calls.now (g.S.Reads.meaning c.args.store.now) _ refl)
    (λ _ _. tt)

pub returns-clause-memory : goal.returns-clause-memory
returns-clause-memory g c =
    let store = c.perform_all.new.store in
    MatchResult-weaker c.perform_all.result (returns-clause-after g c)
    (λ _ is. subst₂ (λ l m. g.S.Store.Holds l m (g.S.Store.memory store)) c.perform_all.ensures.loan is (g.met.S.Store.holds store))
    (λ _ same. subst₂ (λ l m. g.S.Store.Holds l m (g.S.Store.memory store)) c.perform_all.ensures.loan (ap g.S.Reads.meaning same) (g.met.S.Store.holds store))

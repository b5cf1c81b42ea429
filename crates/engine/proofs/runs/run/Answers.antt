use Rattle.std.proofs.Common.{ap, ◌∙◌}
use Rattle.std.proofs.lemmas.Result.{MatchResult-weaker}
use Rattle.engine.specs.Performing.{engine_after_calls}
use Rattle.engine.proofs.TraceLemmas.{run_keeps_law}
use Rattle.engine.proofs.runs.run.Goals as goal

pub returns-clause-law : goal.returns-clause-law
returns-clause-law g c =
    let depth = g.S.Store.DEPTH in
    let calls = c.args.calls.now in
    MatchResult-weaker c.perform_all-done.result c.perform_all-done.ensures.after
    (λ _ is. run_keeps_law depth calls (g.S.Reads.meaning c.args.store) _ (is ∙ ap (engine_after_calls depth calls) c.new-engine.ensures.value))
    (λ _ _. tt)

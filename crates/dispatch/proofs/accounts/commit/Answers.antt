use Rattle.std.proofs.Common.{rules, ◌≡◌, ◌∙◌, sym, ap}
use Rattle.snapshot.specs.declared.fault.Refusal.TheVariants.{CapacityExceeded}
use Rattle.engine.specs.Engines.{engine_of}
use Rattle.dispatch.specs.Accounting.{pruned}
use Rattle.dispatch.proofs.Accountings.{once_pruned}
use Rattle.dispatch.proofs.accounts.commit.Goals as goal

-- the store was pruned after a commit that changed nothing
pub returns-in_ok-commit_once-in-Err-clause-accounted : goal.returns-in_ok-commit_once-in-Err-clause-accounted
returns-in_ok-commit_once-in-Err-clause-accounted g c =
    let full : c.in-Err.field-0.fault.refusal ≡ CapacityExceeded = search rules in
    let same = ap (λ e. pruned c.args.horizon (engine_of g.S.Reads.meaning e)) (sym c.in-Err.ensures.unchanged) in
    once_pruned _ _ _ _ _ _ _ _ _ (c.in-Err.field-0, ap (λ x. x.0) c.in-Err.ensures.step, full)
    (same ∙ sym (ap (λ x. x.1) c.prune.ensures.step)) c.in_ok-commit_once-in-Err.ensures.step c.in_ok-commit_once-in-Err.ensures.accounted

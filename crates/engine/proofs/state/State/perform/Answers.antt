use Rattle.std.proofs.Common.{Ok, Err, refl, sym, ap, ◌∙◌}
use Rattle.std.proofs.lemmas.Result.{err_from_is_err_and}
use Rattle.engine_model.specs.declared.calls.Call.TheVariants as call
use Rattle.engine.specs.Engines.{engine_over}
use Rattle.engine.specs.Performing.{as_result}
use Rattle.engine.proofs.PerformLemmas.{accepts, performs, shows}
use Rattle.engine.proofs.PlainSteps.{prune_is_step}
use Rattle.engine.proofs.state.State.perform.Goals as goal

pub returns-in-Begin-clause-step : goal.returns-in-Begin-clause-step
returns-in-Begin-clause-step g c =
    let depth = g.S.Store.DEPTH in
    performs depth c.args.call (call.Begin c.in-Begin.place c.in-Begin.worker) _ _ _ _ c.in-Begin.is (shows (call.Begin c.in-Begin.place c.in-Begin.worker) _ _ c.map.ensures.cases) (c.begin.ensures.step _ depth)

pub returns-in-Hand-clause-step : goal.returns-in-Hand-clause-step
returns-in-Hand-clause-step g c =
    let depth = g.S.Store.DEPTH in
    performs depth c.args.call (call.Hand c.in-Hand.place c.in-Hand.leg c.in-Hand.worker) _ _ _ _ c.in-Hand.is (shows (call.Hand c.in-Hand.place c.in-Hand.leg c.in-Hand.worker) _ _ c.map-in-Hand.ensures.cases) (c.hand.ensures.step _ depth)

pub returns-in_err-first-in-Fork-clause-step : goal.returns-in_err-first-in-Fork-clause-step
returns-in_err-first-in-Fork-clause-step g c =
    let depth = g.S.Store.DEPTH in
    let exit = err_from_is_err_and c.from_residual.result c.from_residual.ensures.1 in
    performs depth c.args.call (call.Fork c.in-Fork.place c.in-Fork.leg c.in-Fork.first_worker c.in-Fork.second_worker) _ _ _ _ c.in-Fork.is
    (exit.1 ∙ ap Err exit.2 ∙ sym (ap (as_result (call.Fork c.in-Fork.place c.in-Fork.leg c.in-Fork.first_worker c.in-Fork.second_worker)) c.in_err-first-in-Fork.was)) (c.fork.ensures.step _ depth)

pub returns-in_ok-first-in-Fork-clause-step : goal.returns-in_ok-first-in-Fork-clause-step
returns-in_ok-first-in-Fork-clause-step g c =
    let depth = g.S.Store.DEPTH in
    performs depth c.args.call (call.Fork c.in-Fork.place c.in-Fork.leg c.in-Fork.first_worker c.in-Fork.second_worker) _ _ _ _ c.in-Fork.is
    (sym (ap (as_result (call.Fork c.in-Fork.place c.in-Fork.leg c.in-Fork.first_worker c.in-Fork.second_worker)) c.in_ok-first-in-Fork.was)) (c.fork.ensures.step _ depth)

pub returns-in-Join-clause-step : goal.returns-in-Join-clause-step
returns-in-Join-clause-step g c =
    let depth = g.S.Store.DEPTH in
    performs depth c.args.call (call.Join c.in-Join.place c.in-Join.first_leg c.in-Join.second_leg c.in-Join.worker) _ _ _ _ c.in-Join.is (shows (call.Join c.in-Join.place c.in-Join.first_leg c.in-Join.second_leg c.in-Join.worker) _ _ c.map-in-Join.ensures.cases) (c.join.ensures.step _ depth)

pub returns-in-Read-clause-step : goal.returns-in-Read-clause-step
returns-in-Read-clause-step g c =
    let depth = g.S.Store.DEPTH in
    performs depth c.args.call (call.Read c.in-Read.place c.in-Read.leg c.in-Read.key) _ _ _ _ c.in-Read.is (shows (call.Read c.in-Read.place c.in-Read.leg c.in-Read.key) _ _ c.map-in-Read.ensures.cases) (c.read.ensures.step depth)

pub returns-in-Write-clause-step : goal.returns-in-Write-clause-step
returns-in-Write-clause-step g c =
    let depth = g.S.Store.DEPTH in
    performs depth c.args.call (call.Write c.in-Write.place c.in-Write.leg c.in-Write.key c.in-Write.value) _ _ _ _ c.in-Write.is (c.and.ensures ∙ accepts (call.Write c.in-Write.place c.in-Write.leg c.in-Write.key c.in-Write.value) (λ x. refl) _)
    (c.write.ensures.step _ depth)

pub returns-in-Abandon-clause-step : goal.returns-in-Abandon-clause-step
returns-in-Abandon-clause-step g c =
    let depth = g.S.Store.DEPTH in
    performs depth c.args.call (call.Abandon c.in-Abandon.place) _ _ _ _ c.in-Abandon.is (c.and-in-Abandon.ensures ∙ accepts (call.Abandon c.in-Abandon.place) (λ x. refl) _)
    (c.abandon.ensures.step _ depth)

pub returns-in-Deliver-clause-step : goal.returns-in-Deliver-clause-step
returns-in-Deliver-clause-step g c =
    let depth = g.S.Store.DEPTH in
    performs depth c.args.call (call.Deliver c.in-Deliver.position) _ _ _ _ c.in-Deliver.is (c.and-in-Deliver.ensures ∙ accepts (call.Deliver c.in-Deliver.position) (λ x. refl) _)
    (c.deliver.ensures.step _ depth)

pub returns-in-Discard-clause-step : goal.returns-in-Discard-clause-step
returns-in-Discard-clause-step g c =
    let depth = g.S.Store.DEPTH in
    performs depth c.args.call (call.Discard c.in-Discard.position) _ _ _ _ c.in-Discard.is (c.and-in-Discard.ensures ∙ accepts (call.Discard c.in-Discard.position) (λ x. refl) _)
    (c.discard.ensures.step _ depth)

pub returns-in-Commit-clause-step : goal.returns-in-Commit-clause-step
returns-in-Commit-clause-step g c =
    let depth = g.S.Store.DEPTH in
    performs depth c.args.call (call.Commit c.in-Commit.place c.in-Commit.leg c.in-Commit.clock c.in-Commit.readings_room c.in-Commit.writes_room) _ _ _ _ c.in-Commit.is (shows (call.Commit c.in-Commit.place c.in-Commit.leg c.in-Commit.clock c.in-Commit.readings_room c.in-Commit.writes_room) _ _ c.map-in-Commit.ensures.cases) c.commit_as_value.ensures.step

pub returns-in-Count-clause-step : goal.returns-in-Count-clause-step
returns-in-Count-clause-step g c =
    let depth = g.S.Store.DEPTH in
    performs depth c.args.call call.Count _ _ (Ok c.count-waiting.result) _ c.in-Count.is refl (c.count-waiting.ensures.step _ depth)

pub returns-in-Prune-clause-step : goal.returns-in-Prune-clause-step
returns-in-Prune-clause-step g c =
    performs g.S.Store.DEPTH c.args.call (call.Prune c.in-Prune.horizon) _ _ (Ok tt) _ c.in-Prune.is refl
    (prune_is_step g.S.Store.DEPTH c.in-Prune.horizon (engine_over (g.S.Reads.meaning c.args.store.now) c.args.self.now) _ c.prune.ensures.after)

use Rattle.std.proofs.Common.{◌≡◌, ◌<◌, ◌&&◌, true, Err, length, ap, ◌∙◌, rules, arith}
use Rattle.std.proofs.lemmas.Bool.Decides.{nat_tests}
use Rattle.std.proofs.lemmas.Result.{err_from_is_err_and}
use Rattle.snapshot.specs.Limits.{is_place, is_leg, is_worker}
use Rattle.snapshot.specs.Refusals.{not_named}
use Rattle.snapshot.specs.declared.fault.Refusal.TheVariants.{NotOpen}
use Rattle.engine_model.specs.Steps.{chain_fault}
use Rattle.engine.specs.Chains.{chain_of}
use Rattle.engine.specs.ChainCalls.{after_join}
use Rattle.engine.specs.Engines.{engine_over}
use Rattle.engine.specs.Naming.{naming, leg_in_range}
use Rattle.engine.specs.Workers.{worker_number}
use Rattle.engine.proofs.EngineLemmas.{place_in, failed, passed, no_worker, worker_is, stands, called, refused_out, refused_missing}
use Rattle.engine.proofs.ChainSteps.{join_is_step}
use Rattle.engine.proofs.state.State.join.Goals as goal

pub returns-in_err-check_leg-clause-step : goal.returns-in_err-check_leg-clause-step
returns-in_err-check_leg-clause-step c m depth =
    let out = failed leg_in_range _ _ _ _ c.leg-named.ensures c.check_leg.ensures c.in_err-check_leg.was in
    let exit = err_from_is_err_and c.from_residual.result c.from_residual.ensures.1 in
    refused_out _ _ _ _ _ _ (exit.1 ∙ ap Err exit.2) out.1 (grind (arith, nat_tests))

pub returns-in_err-check-clause-step : goal.returns-in_err-check-clause-step
returns-in_err-check-clause-step c m depth =
    let out = failed (λ n. c.is_leg.result) _ _ _ _ c.leg-named.ensures c.check.ensures c.in_err-check.was in
    let exit = err_from_is_err_and c.from_residual-in_err-check.result c.from_residual-in_err-check.ensures.1 in
    refused_out _ _ _ _ _ _ (exit.1 ∙ ap Err exit.2) out.1 (grind (arith, nat_tests))

pub returns-in_err-worker-clause-step : goal.returns-in_err-worker-clause-step
returns-in_err-worker-clause-step c m depth =
    let out = no_worker _ _ c.args.worker _ _ c.leg-named.ensures c.worker.ensures c.in_err-worker.was in
    let exit = err_from_is_err_and c.from_residual-in_err-worker.result c.from_residual-in_err-worker.ensures.1 in
    refused_out _ _ _ _ _ _ (exit.1 ∙ ap Err exit.2) out.1 (grind (arith, nat_tests))

pub returns-in_default-clause-step : goal.returns-in_default-clause-step
returns-in_default-clause-step c m depth =
    let e = c.args.self.now in
    let p = c.args.place in
    let d = c.index-self-place.result in
    let leg = passed leg_in_range _ _ _ _ c.leg-named.ensures c.check_leg.ensures c.in_ok-check_leg.was in
    let second = passed (λ n. c.is_leg.result) _ _ _ _ c.leg-named.ensures c.check.ensures c.in_ok-check.was in
    let worker = worker_is _ c.args.worker _ _ c.worker.ensures c.in_ok-worker.was in
    let within : p < length e.places = grind (arith, nat_tests) in
    refused_missing m e p d within _ _ _ _ _ _
    (c.refused.ensures ∙ ap (λ n. chain_fault n.place n.leg n.key NotOpen) c.leg-named.ensures) (grind (arith, nat_tests)) (search rules)

pub returns-clause-step : goal.returns-clause-step
returns-clause-step c m depth =
    let e = c.args.self.now in
    let p = c.args.place in
    let d = c.index-self-place.result in
    let l = c.args.first_leg in
    let j = c.args.second_leg in
    let n = naming p l not_named in
    let chain = (place_in d e p).chain in
    let w = worker_number c.in_ok-worker.worker in
    let leg = passed leg_in_range _ _ _ _ c.leg-named.ensures c.check_leg.ensures c.in_ok-check_leg.was in
    let second = passed (λ n. c.is_leg.result) _ _ _ _ c.leg-named.ensures c.check.ensures c.in_ok-check.was in
    let worker = worker_is _ c.args.worker _ _ c.worker.ensures c.in_ok-worker.was in
    let range : (is_place p && is_leg l && is_leg j && is_worker c.args.worker) ≡ true = grind (arith, nat_tests) in
    let within : p < length e.places = grind (arith, nat_tests) in
    let is_taken : (place_in d e p).is_taken ≡ true = search rules in
    let there = stands m e p d within is_taken in
    called m e p d within c.join.result c.join.new.self _ _ is_taken
    (join_is_step depth p l j c.args.worker (engine_over m e) (chain_of chain) range there)
    (c.join.ensures.made
    ∙ ap (λ k. after_join k j w (chain_of chain)) c.leg-named.ensures
    ∙ ap (λ x. after_join n j x (chain_of chain)) worker.1)

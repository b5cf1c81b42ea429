use Rattle.std.proofs.Common.{◌≡◌, ◌<◌, ◌&&◌, true, Some, Err, length, ap, ◌∙◌, rules, arith}
use Rattle.std.proofs.lemmas.Bool.Decides.{nat_tests}
use Rattle.std.proofs.lemmas.Result.{err_from_is_err_and}
use Rattle.snapshot.specs.Limits.{is_place, is_worker}
use Rattle.snapshot.specs.declared.fault.Refusal.TheVariants.{PlaceOccupied}
use Rattle.engine_model.specs.Engines as model
use Rattle.engine_model.specs.Steps.{chain_fault}
use Rattle.engine.specs.Chains.{chain_of}
use Rattle.engine.specs.Engines.{engine_over}
use Rattle.engine.specs.Naming.{place_in_range}
use Rattle.engine.proofs.EngineLemmas.{failed, passed, no_worker, worker_is, place_in, stands, nothing_there, place_set, answered, left, left_after, refused_out}
use Rattle.engine.proofs.PlainSteps.{begin_is_step, begin_is_refused}
use Rattle.engine.proofs.state.State.begin.Goals as goal

pub returns-in_err-check_place-clause-step : goal.returns-in_err-check_place-clause-step
returns-in_err-check_place-clause-step c m depth =
    let out = failed place_in_range _ _ _ _ c.place-named.ensures c.check_place.ensures c.in_err-check_place.was in
    let exit = err_from_is_err_and c.from_residual.result c.from_residual.ensures.1 in
    refused_out _ _ _ _ _ _ (exit.1 ∙ ap Err exit.2) out.1 (grind (arith, nat_tests))

pub returns-in_err-worker-clause-step : goal.returns-in_err-worker-clause-step
returns-in_err-worker-clause-step c m depth =
    let out = no_worker _ _ c.args.worker _ _ c.place-named.ensures c.worker.ensures c.in_err-worker.was in
    let exit = err_from_is_err_and c.from_residual-in_err-worker.result c.from_residual-in_err-worker.ensures.1 in
    refused_out _ _ _ _ _ _ (exit.1 ∙ ap Err exit.2) out.1 (grind (arith, nat_tests))

pub returns-then-here-clause-step : goal.returns-then-here-clause-step
returns-then-here-clause-step c m depth =
    let e = c.args.self.now in
    let p = c.args.place in
    let d = c.index-self-place.result in
    let s = engine_over m e in
    let place = passed place_in_range _ _ _ _ c.place-named.ensures c.check_place.ensures c.in_ok-check_place.was in
    let worker = worker_is _ c.args.worker _ _ c.worker.ensures c.in_ok-worker.was in
    let range : (is_place p && is_worker c.args.worker) ≡ true = grind (arith, nat_tests) in
    let within : p < length e.places = grind (arith, nat_tests) in
    let there = stands m e p d within (search rules) in
    left_after _ _ _ _ (left m e p d within)
    (answered s (Err _) (Err _) _
    (ap Err (c.refused.ensures ∙ ap (λ n. chain_fault n.place n.leg n.key PlaceOccupied) c.place-named.ensures))
    (begin_is_refused depth p c.args.worker s (chain_of (place_in d e p).chain) range there))

pub returns-clause-step : goal.returns-clause-step
returns-clause-step c m depth =
    let e = c.args.self.now in
    let p = c.args.place in
    let d = c.index-self-place.result in
    let s = engine_over m e in
    let place = passed place_in_range _ _ _ _ c.place-named.ensures c.check_place.ensures c.in_ok-check_place.was in
    let worker = worker_is _ c.args.worker _ _ c.worker.ensures c.in_ok-worker.was in
    let range : (is_place p && is_worker c.args.worker) ≡ true = grind (arith, nat_tests) in
    let within : p < length e.places = grind (arith, nat_tests) in
    let there = nothing_there m e p d within (search rules) in
    let opened = c.begin.ensures ∙ ap (λ w. Some (model.new_chain w)) worker.1 in
    left_after _ _ _ _ (place_set m e p d within c.begin.new.self _ opened) (begin_is_step depth p c.args.worker s range there)

use Rattle.std.proofs.Common.{◌<◌, Err, length, ap, ◌∙◌, rules, arith}
use Rattle.std.proofs.lemmas.Bool.Decides.{nat_tests}
use Rattle.std.proofs.lemmas.Result.{err_from_is_err_and}
use Rattle.snapshot.specs.declared.fault.Refusal.TheVariants.{NotOpen}
use Rattle.engine_model.specs.Steps.{chain_fault}
use Rattle.engine.specs.Chains.{chain_of}
use Rattle.engine.specs.Engines.{engine_over}
use Rattle.engine.specs.Naming.{place_in_range}
use Rattle.engine.proofs.EngineLemmas.{failed, passed, refused_out, place_in, stands, place_set, left_after, refused_at_all}
use Rattle.engine.proofs.PlainSteps.{abandon_is_step}
use Rattle.engine.proofs.state.State.abandon.Goals as goal

pub returns-in_err-check_place-clause-step : goal.returns-in_err-check_place-clause-step
returns-in_err-check_place-clause-step c m depth =
    let out = failed place_in_range _ _ _ _ c.place-named.ensures c.check_place.ensures c.in_err-check_place.was in
    let exit = err_from_is_err_and c.from_residual.result c.from_residual.ensures.1 in
    refused_out _ _ _ _ _ _ (exit.1 ∙ ap Err exit.2) out.1 (grind (arith, nat_tests))

pub returns-then-not-here-clause-step : goal.returns-then-not-here-clause-step
returns-then-not-here-clause-step c m depth =
    let e = c.args.self.now in
    let p = c.args.place in
    let d = c.index-self-place.result in
    let place = passed place_in_range _ _ _ _ c.place-named.ensures c.check_place.ensures c.in_ok-check_place.was in
    let within : p < length e.places = grind (arith, nat_tests) in
    refused_at_all m e p d within _ _ _ _ _ (c.refused.ensures ∙ ap (λ n. chain_fault n.place n.leg n.key NotOpen) c.place-named.ensures) place (search rules)

pub returns-clause-step : goal.returns-clause-step
returns-clause-step c m depth =
    let e = c.args.self.now in
    let p = c.args.place in
    let d = c.index-self-place.result in
    let s = engine_over m e in
    let place = passed place_in_range _ _ _ _ c.place-named.ensures c.check_place.ensures c.in_ok-check_place.was in
    let within : p < length e.places = grind (arith, nat_tests) in
    let there = stands m e p d within (search rules) in
    left_after _ _ _ _ (place_set m e p d within c.free.new.self _ c.free.ensures)
    (abandon_is_step depth p s (chain_of (place_in d e p).chain) place there)

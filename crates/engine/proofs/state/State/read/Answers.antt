use Rattle.std.proofs.Common.{◌≡◌, ◌<◌, ◌&&◌, true, Err, refl, length, ap, ◌∙◌, rules, arith}
use Rattle.std.proofs.lemmas.Bool.Decides.{nat_tests}
use Rattle.std.proofs.lemmas.Result.{err_from_is_err_and}
use Rattle.snapshot.specs.Limits.{is_place, is_leg, is_key}
use Rattle.engine.specs.Chains.{chain_of}
use Rattle.engine.specs.Engines.{engine_over}
use Rattle.engine.specs.Naming.{naming, key_in_range}
use Rattle.engine.proofs.EngineLemmas.{place_in, failed, passed, stands, read_called, refused_out, refused_missing}
use Rattle.engine.proofs.ReadStep.{read_is_step}
use Rattle.engine.proofs.state.State.read.Goals as goal

pub returns-in_err-check_key-clause-step : goal.returns-in_err-check_key-clause-step
returns-in_err-check_key-clause-step g c depth =
    let m = g.S.Reads.meaning c.args.store.now in
    let out = failed key_in_range _ _ _ _ refl c.check_key.ensures c.in_err-check_key.was in
    let exit = err_from_is_err_and c.from_residual.result c.from_residual.ensures.1 in
    refused_out _ _ _ _ _ _ (exit.1 ∙ ap Err exit.2) out.1 (grind (arith, nat_tests))

pub returns-in_default-clause-step : goal.returns-in_default-clause-step
returns-in_default-clause-step g c depth =
    let m = g.S.Reads.meaning c.args.store.now in
    let e = c.args.self.now in
    let p = c.args.place in
    let d = c.index-self-place.result in
    let n = naming p c.args.leg c.args.key in
    let key = passed key_in_range n _ _ _ refl c.check_key.ensures c.in_ok-check_key.was in
    let within : p < length e.places = grind (arith, nat_tests) in
    refused_missing m e p d within _ _ _ _ _ _ c.refused.ensures (grind (arith, nat_tests)) (search rules)

pub returns-clause-step : goal.returns-clause-step
returns-clause-step g c depth =
    let m = g.S.Reads.meaning c.args.store.now in
    let e = c.args.self.now in
    let p = c.args.place in
    let d = c.index-self-place.result in
    let n = naming p c.args.leg c.args.key in
    let chain = (place_in d e p).chain in
    let key = passed key_in_range n _ _ _ refl c.check_key.ensures c.in_ok-check_key.was in
    let range : (is_place p && is_leg c.args.leg && is_key c.args.key) ≡ true = grind (arith, nat_tests) in
    let within : p < length e.places = grind (arith, nat_tests) in
    let is_taken : (place_in d e p).is_taken ≡ true = search rules in
    let there = stands m e p d within is_taken in
    read_called m e p d within c.read.result c.read.new.self c.read.new.caches _ is_taken
    (read_is_step depth p c.args.leg c.args.key (engine_over m e) (chain_of chain) range there
    _ _ _ c.read.ensures.made)

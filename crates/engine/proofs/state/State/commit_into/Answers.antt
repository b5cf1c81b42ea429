use Rattle.std.proofs.Common.{◌<◌, Ok, Err, refl, length, ap, sym, ◌∙◌, rules, arith, List}
use Rattle.std.specs.Result.{result_map_both}
use Rattle.std.proofs.lemmas.Bool.Decides.{nat_tests}
use Rattle.std.proofs.lemmas.List.{get_or_default}
use Rattle.std.proofs.lemmas.Result.{err_from_is_err_and}
use Rattle.snapshot.specs.Refusals.{around_store}
use Rattle.snapshot.specs.declared.fault.Refusal.TheVariants.{NotOpen}
use Rattle.engine_model.specs.Steps.{account_for, chain_fault}
use Rattle.engine_parts.specs.KeysRead.{readings_of}
use Rattle.engine.specs.Chains.{chain_of}
use Rattle.engine.specs.Commits.{answer_and_lists}
use Rattle.engine.specs.Engines.{engine_over}
use Rattle.engine.specs.Legs.{lent_leg}
use Rattle.engine.specs.Naming.{leg_in_range}
use Rattle.engine.specs.declared.place.Place.{Place}
use Rattle.engine.proofs.CommitLemmas.{commit_accepted, commit_refused, committed, has_room, none_commits, one_commits}
use Rattle.engine.proofs.EngineLemmas.{left_after, place_in, stands, failed, passed, left, refused_out, refused_missing}
use Rattle.engine.proofs.state.State.commit_into.Goals as goal

pub returns-in_err-check_leg-clause-step : goal.returns-in_err-check_leg-clause-step
returns-in_err-check_leg-clause-step g c =
    let s = engine_over (g.S.Reads.meaning c.args.store.now) c.args.self.now in
    let out = failed leg_in_range _ _ _ _ c.requires.no_key c.check_leg.ensures c.in_err-check_leg.was in
    let exit = err_from_is_err_and c.from_residual.result c.from_residual.ensures.1 in
    commit_refused g.S.Store.DEPTH c.args.named.place c.args.named.leg c.args.clock c.args.room.readings c.args.room.writes
    c.args.readings.now c.args.writes.now s s s _ _ _ refl exit.1 exit.2 (refused_out s _ (Err _) _ _ _ refl out.1 (grind (arith, nat_tests)))

pub returns-in_default-clause-step : goal.returns-in_default-clause-step
returns-in_default-clause-step g c =
    let e = c.args.self.now in
    let m = g.S.Reads.meaning c.args.store.now in
    let p = c.args.named.place in
    let d = c.index-self-named.result in
    let leg = passed leg_in_range _ _ _ _ c.requires.no_key c.check_leg.ensures c.in_ok-check_leg.was in
    let within : p < length e.places = grind (arith, nat_tests) in
    commit_refused g.S.Store.DEPTH p c.args.named.leg c.args.clock c.args.room.readings c.args.room.writes c.args.readings.now
    c.args.writes.now (engine_over m e) _ _ _ _ _ refl refl refl
    (left_after _ _ _ _ (sym (left m e p d within))
    (refused_missing m e p d within _ _ _ _ _ _
    (c.refused.ensures ∙ ap (λ n. chain_fault n.place n.leg n.key NotOpen) c.requires.no_key) (grind (arith, nat_tests)) (search rules)))

pub returns-in_err-leg-clause-step : goal.returns-in_err-leg-clause-step
returns-in_err-leg-clause-step g c =
    let e = c.args.self.now in
    let n = c.args.named in
    let d = c.index-self-named.result in
    let m = g.S.Reads.meaning c.args.store.now in
    let depth = g.S.Store.DEPTH in
    let range = passed leg_in_range n n _ _ refl c.check_leg.ensures c.in_ok-check_leg.was in
    let within : n.place < length e.places = grind (arith, nat_tests) in
    let exit = err_from_is_err_and c.from_residual-in_err-leg.result c.from_residual-in_err-leg.ensures.1 in
    commit_refused depth n.place n.leg c.args.clock c.args.room.readings c.args.room.writes c.args.readings.now c.args.writes.now
    (engine_over m e) _ (engine_over m e) _ _ _ refl exit.1 exit.2
    (none_commits m depth e n c.args.clock c.args.room.readings c.args.room.writes (place_in d e n.place).chain c.requires.no_key range
    (stands m e n.place d within (search rules)) _ _ c.committing_leg.ensures.value c.in_err-leg.was)

pub account-head-requires-clause-readings_fit : goal.account-head-requires-clause-readings_fit
account-head-requires-clause-readings_fit g c =
    let e = c.args.self.now in
    let n = c.args.named in
    let range = passed leg_in_range n n _ _ refl c.check_leg.ensures c.in_ok-check_leg.was in
    let within : n.place < length e.places = grind (arith, nat_tests) in
    let same = ap (λ here. length (readings_of here.chain.readings)) (get_or_default e.places n.place c.index-self-named-in-Ok.result c.index-self-named.result within) in
    let room = has_room c.args.named _ _ (chain_of (place_in c.index-self-named.result c.args.self.now c.args.named.place).chain) (lent_leg c.in_ok-leg.field-0) (sym c.committing_leg.ensures.value ∙ ap (result_map_both lent_leg (λ f. f)) c.in_ok-leg.was) in
    grind (arith, nat_tests, same, room)

pub account-head-requires-clause-writes_fit : goal.account-head-requires-clause-writes_fit
account-head-requires-clause-writes_fit g c =
    let e = c.args.self.now in
    let n = c.args.named in
    let range = passed leg_in_range n n _ _ refl c.check_leg.ensures c.in_ok-check_leg.was in
    let within : n.place < length e.places = grind (arith, nat_tests) in
    let room = has_room c.args.named _ _ (chain_of (place_in c.index-self-named.result c.args.self.now c.args.named.place).chain) (lent_leg c.in_ok-leg.field-0) (sym c.committing_leg.ensures.value ∙ ap (result_map_both lent_leg (λ f. f)) c.in_ok-leg.was) in
    grind (arith, nat_tests)

pub returns-in-Ok-clause-step : goal.returns-in-Ok-clause-step
returns-in-Ok-clause-step g c =
    let e = c.args.self.now in
    let n = c.args.named in
    let d = c.index-self-named.result in
    let m = g.S.Reads.meaning c.args.store.now in
    let depth = g.S.Store.DEPTH in
    let range = passed leg_in_range n n _ _ refl c.check_leg.ensures c.in_ok-check_leg.was in
    let within : n.place < length e.places = grind (arith, nat_tests) in
    commit_accepted depth n.place n.leg c.args.clock c.args.room.readings c.args.room.writes c.args.readings.now c.args.writes.now
    (engine_over m e) _ _ _ _ (account_for (chain_of (place_in d e n.place).chain) (lent_leg c.in_ok-leg.field-0) c.in-Ok.timestamp)
    (committed m e n.place within c.free.new.self c.give_to_store.new.notices (g.S.Reads.meaning c.give_to_store.new.store) c.free.ensures)
    (c.account-head.ensures
    ∙ ap
    (λ here. answer_and_lists c.args.readings.now c.args.writes.now (Ok (account_for (chain_of here.chain) (lent_leg c.in_ok-leg.field-0) c.in-Ok.timestamp)))
    (get_or_default e.places n.place c.index-self-named-in-Ok.result d within))
    (one_commits m depth e n c.args.clock c.args.room.readings c.args.room.writes (place_in d e n.place).chain c.requires.no_key range
    (stands m e n.place d within (search rules)) _ _ c.committing_leg.ensures.value c.in_ok-leg.was _ c.as_slice.ensures.value _ _ _ _ c.give_to_store.ensures.made c.in-Ok.is)

pub returns-in-Err-clause-step : goal.returns-in-Err-clause-step
returns-in-Err-clause-step g c =
    let e = c.args.self.now in
    let n = c.args.named in
    let d = c.index-self-named.result in
    let m = g.S.Reads.meaning c.args.store.now in
    let depth = g.S.Store.DEPTH in
    let range = passed leg_in_range n n _ _ refl c.check_leg.ensures c.in_ok-check_leg.was in
    let within : n.place < length e.places = grind (arith, nat_tests) in
    let same = λ (places : List Place).
    ap (λ x. engine_over (g.S.Reads.meaning c.give_to_store.new.store) (record { places = places; caches = e.caches; notices = x })) c.in-Err.ensures.notices_unchanged
    ∙ ap (λ x. engine_over (g.S.Reads.meaning x) (record { places = places; caches = e.caches; notices = e.notices })) c.in-Err.ensures.store_unchanged in
    commit_refused depth n.place n.leg c.args.clock c.args.room.readings c.args.room.writes c.args.readings.now c.args.writes.now
    (engine_over m e) _ (engine_over m e) _ _ _ (same _) refl
    (c.refused_by_store.ensures ∙ ap (λ k. around_store c.in-Err.fault k.place k.leg k.key) c.requires.no_key)
    (one_commits m depth e n c.args.clock c.args.room.readings c.args.room.writes (place_in d e n.place).chain c.requires.no_key range
    (stands m e n.place d within (search rules)) _ _ c.committing_leg.ensures.value c.in_ok-leg.was _ c.as_slice.ensures.value _ _ _ _ c.give_to_store.ensures.made c.in-Err.is)

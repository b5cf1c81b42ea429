-- Each turn answers the next call; the room that was reserved is enough for all.
use Rattle.std.proofs.Common.{◌++◌, vec_items, sym, refl, ap, subst₂, ◌∙◌}
use Rattle.store.specs.Calls.{store_answers}
use Rattle.store.proofs.Keeping.{calls_keep_laws}
use Rattle.store.proofs.Runs.{answers_all, after_all_calls}
use Rattle.store.proofs.calls.run.Goals as goal

pub returns : goal.returns
returns g c =
    let depth = g.S.Store.DEPTH in
    let calls = c.args.calls.now in
    let i = c.loop-call.call-index in
    let m = g.S.Reads.meaning c.loop-call.store in
    let past = c.loop-call-test.false in
    let left = sym (after_all_calls depth calls i past m) ∙ c.loop-call.invariant.1 in
    record {
      answers = sym (answers_all depth calls i past m (vec_items c.loop-call.answers))
          ∙ c.loop-call.invariant.0
          ∙ ap (λ xs. xs ++ store_answers depth calls (g.S.Reads.meaning c.args.store.now)) c.in_ok-reserve.ensures.items;
      after = left;
      succeeds = λ _. refl;
      loan = c.loop-call.invariant.2;
      memory = subst₂ (λ l n. g.S.Store.Holds l n (g.S.Store.memory c.loop-call.store)) c.loop-call.invariant.2 left (g.met.S.Store.holds c.loop-call.store);
      laws = calls_keep_laws depth g.S.Store.not_none calls _ m left;
    }

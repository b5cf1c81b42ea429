use Rattle.std.proofs.Common.{length, subst}
use Rattle.engine.specs.Engines.{engine_of, engine_over}
use Rattle.engine.proofs.CommitLemmas.{IsStepped, commit_replies, commit_law}
use Rattle.engine.proofs.engine.Engine.commit.Goals as goal

pub returns-clause-step : goal.returns-clause-step
returns-clause-step g c =
    let rs = c.args.readings.now in
    let ws = c.args.writes.now in
    subst
    (λ n. IsStepped g.S.Store.DEPTH n.place n.leg c.args.clock (length rs) (length ws) rs ws (engine_of g.S.Reads.meaning c.args.self.now)
    c.commit_into.result (c.commit_into.new.readings, c.commit_into.new.writes) (engine_over (g.S.Reads.meaning c.commit_into.new.store) c.commit_into.new.self))
    c.leg-named.ensures c.commit_into.ensures.step

pub returns-clause-reply : goal.returns-clause-reply
returns-clause-reply g c =
    let rs = c.args.readings.now in
    let ws = c.args.writes.now in
    commit_replies g.S.Store.DEPTH c.args.place c.args.leg c.args.clock (length rs) (length ws) rs ws
    (engine_of g.S.Reads.meaning c.args.self.now) _ _ _ (returns-clause-step g c)

pub returns-clause-law : goal.returns-clause-law
returns-clause-law g c =
    let rs = c.args.readings.now in
    let ws = c.args.writes.now in
    commit_law g.S.Store.DEPTH c.args.place c.args.leg c.args.clock (length rs) (length ws) rs ws
    (engine_of g.S.Reads.meaning c.args.self.now) _ _ _ (returns-clause-step g c)

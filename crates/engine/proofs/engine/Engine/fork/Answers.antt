use Rattle.engine_model.specs.declared.calls.Call.TheVariants as call
use Rattle.engine.specs.Engines.{engine_of}
use Rattle.engine.proofs.ReplyLemmas.{step_replies}
use Rattle.engine.proofs.engine.Engine.fork.Goals as goal

pub returns-clause-step : goal.returns-clause-step
returns-clause-step g c = c.fork.ensures.step (g.S.Reads.meaning c.args.self.now.store) g.S.Store.DEPTH

pub returns-clause-reply : goal.returns-clause-reply
returns-clause-reply g c =
    step_replies g.S.Store.DEPTH (call.Fork c.args.place c.args.leg c.args.first_worker c.args.second_worker) (engine_of g.S.Reads.meaning c.args.self.now) _ _ (returns-clause-step g c)

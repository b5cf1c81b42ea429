use Rattle.engine_model.specs.declared.calls.Call.TheVariants as call
use Rattle.engine.specs.Engines.{engine_of}
use Rattle.engine.proofs.ReplyLemmas.{step_replies}
use Rattle.engine.proofs.engine.Engine.join.Goals as goal

pub returns-clause-step : goal.returns-clause-step
returns-clause-step g c = c.join.ensures.step (g.S.Reads.meaning c.args.self.now.store) g.S.Store.DEPTH

pub returns-clause-reply : goal.returns-clause-reply
returns-clause-reply g c =
    step_replies g.S.Store.DEPTH (call.Join c.args.place c.args.first_leg c.args.second_leg c.args.worker) (engine_of g.S.Reads.meaning c.args.self.now) _ _ (returns-clause-step g c)

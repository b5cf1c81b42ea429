use Rattle.engine.specs.Engines.{engine_of}
use Rattle.engine.proofs.ReplyLemmas.{performed_replies}
use Rattle.engine.proofs.TraceLemmas.{goes_on}
use Rattle.engine.proofs.engine.Engine.perform.Goals as goal

pub returns-clause-law : goal.returns-clause-law
returns-clause-law g c =
    goes_on g.S.Store.DEPTH c.args.call (engine_of g.S.Reads.meaning c.args.self.now) _ _ c.perform.ensures.step

pub returns-clause-reply : goal.returns-clause-reply
returns-clause-reply g c =
    performed_replies g.S.Store.DEPTH c.args.call (engine_of g.S.Reads.meaning c.args.self.now) _ _ c.perform.ensures.step

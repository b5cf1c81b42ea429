use Rattle.engine.proofs.TraceLemmas.{begins}
use Rattle.engine.proofs.engine.Engine.new.Goals as goal

pub returns-clause-value : goal.returns-clause-value
returns-clause-value g c = c.new.ensures (g.S.Reads.meaning c.args.store)

pub returns-clause-begins : goal.returns-clause-begins
returns-clause-begins g c = begins g.S.Store.DEPTH (g.S.Reads.meaning c.args.store) _ (returns-clause-value g c)

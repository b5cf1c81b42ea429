use Rattle.std.proofs.Common.{◌∙◌, arith}
use Rattle.engine.proofs.ChainLemmas.{only_open_below}
use Rattle.engine.proofs.chain.Chain.is_only_open.Goals as goal

pub returns : goal.returns
returns c = c.loop-number.invariant ∙ only_open_below c.args.self.now c.args.leg c.loop-number.number (omega arith) (λ lt. omega arith)

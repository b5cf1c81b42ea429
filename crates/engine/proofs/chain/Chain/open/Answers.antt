use Rattle.std.proofs.Common.{◌<◌, length, rules}
use Rattle.engine.proofs.ChainLemmas.{leg_opened}
use Rattle.engine.proofs.chain.Chain.open.Goals as goal

pub returns-clause-after : goal.returns-clause-after
returns-clause-after c =
    let chain = c.args.self.now in
    let lt : chain.opened < length chain.legs = search rules in
    leg_opened chain c.args.leg c.new.result lt c.new.ensures

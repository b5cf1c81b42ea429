use Rattle.std.proofs.Common.{◌≡◌}
use Rattle.engine_model.specs.Steps.{only_open}
use Rattle.engine.specs.Chains.{chain_of}
use Rattle.engine.proofs.chain.Chain.is_only_open.Given as goal

-- none of the legs so far is open but this one
abbrev pub invariant-loop-number : goal.invariant-loop-number
invariant-loop-number l = l.only ≡ only_open l.leg (chain_of l.self).legs l.number

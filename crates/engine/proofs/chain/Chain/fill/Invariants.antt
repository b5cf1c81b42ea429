use Rattle.std.proofs.Common.{◌≡◌, map, take}
use Rattle.snapshot.specs.Overwriting.{overwritten}
use Rattle.engine.specs.Chains.{chain_of}
use Rattle.engine.proofs.chain.Chain.fill.Given as goal

-- the readings so far are in the list
abbrev pub invariant-loop-position : goal.invariant-loop-position
invariant-loop-position l =
    l.list ≡ overwritten (take l.position (map (λ r. r.made) (chain_of l.self).readings)) l.initial.list

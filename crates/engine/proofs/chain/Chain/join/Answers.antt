use Rattle.std.proofs.Common.{◌≡◌, eqb, ltb, true, false, Some, Ok, rules}
use Rattle.engine.proofs.ChainLemmas.{both_end, legs_joined}
use Rattle.engine.specs.Chains.{chain_of}
use Rattle.engine.specs.Legs.{open_leg_of, open_in, joined_leg}
use Rattle.engine.specs.Workers.{worker_number}
use Rattle.engine.proofs.chain.Chain.join.Goals as goal

pub returns-clause-made : goal.returns-clause-made
returns-clause-made c =
    let n = c.args.named in
    let w = worker_number c.args.worker in
    let chain = chain_of c.args.self.now in
    let j = c.args.second in
    let one = open_leg_of c.in-Some.open.now in
    let other = open_leg_of c.in-Some-open_leg.other.now in
    let first : open_in (chain.legs n.leg) ≡ Some one = search rules in
    let second : open_in (chain.legs j) ≡ Some other = search rules in
    let apart : eqb n.leg j ≡ false = search rules in
    let room : ltb chain.opened 16 ≡ true = search rules in
    let both : joined_leg w one other ≡ Ok (open_leg_of c.in_ok-both.both) = search rules in
    let ends = both_end chain n.leg j _ _ apart first second _ _ c.change.ensures.after c.change-2.ensures.after in
    let number : c.open.result ≡ chain.opened = search rules in
    legs_joined n j w chain one other (open_leg_of c.in_ok-both.both) first second apart room both _ _ _ number ends c.open.ensures.after

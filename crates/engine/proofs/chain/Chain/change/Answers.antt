use Rattle.std.proofs.Common.{ap, sym, ◌∙◌, rules}
use Rattle.engine.proofs.ChainLemmas.{IsOpened, leg_made, leg_there}
use Rattle.engine.specs.Legs.{leg_after}
use Rattle.engine.proofs.chain.Chain.change.Goals as goal

pub returns-clause-answer : goal.returns-clause-answer
returns-clause-answer c =
    let chain = c.args.self.now in
    let l = c.args.leg in
    let opened : IsOpened chain l = search rules in
    ap (λ p. p.0) c.change.ensures.made ∙ ap (λ state. (leg_after c.args.call state).0) (sym (leg_there chain l opened))

pub returns-clause-after : goal.returns-clause-after
returns-clause-after c =
    let chain = c.args.self.now in
    let l = c.args.leg in
    let opened : IsOpened chain l = search rules in
    leg_made chain l c.change.new.self (λ state. (leg_after c.args.call state).1) opened (ap (λ p. p.1) c.change.ensures.made)

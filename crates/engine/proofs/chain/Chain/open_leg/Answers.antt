use Rattle.std.proofs.Common.{◌<◌, ◌≤◌, length, ap, sym, ◌∙◌, arith}
use Rattle.std.proofs.lemmas.Bool.Decides.{nat_tests}
use Rattle.std.proofs.lemmas.List.{get_or_default, length-take}
use Rattle.std.specs.Option.{option_map, option_copied}
use Rattle.engine_parts.proofs.ItemLemmas.{item_past}
use Rattle.engine_model.specs.Engines as model
use Rattle.engine.specs.Legs.{leg_of, open_leg_of, open_in}
use Rattle.engine.proofs.ChainLemmas.{IsOpened, leg_there, no_leg, opened_legs}
use Rattle.engine.proofs.chain.Chain.open_leg.Goals as goal

pub returns-in_err-get-clause-value : goal.returns-in_err-get-clause-value
returns-in_err-get-clause-value c =
    let chain = c.args.self.now in
    let past : length (opened_legs chain) ≤ c.args.leg = grind (arith, nat_tests, length-take chain.opened chain.legs, c.in_err-get.ensures.lookup) in
    ap (λ r. option_map open_leg_of (option_copied r)) c.from_residual.ensures
    ∙ ap open_in (sym (item_past leg_of model.unused (opened_legs chain) c.args.leg past))

pub returns-in_ok-get-clause-value : goal.returns-in_ok-get-clause-value
returns-in_ok-get-clause-value c =
    let chain = c.args.self.now in
    let legs = chain.legs in
    let l = c.args.leg in
    let within : l < length legs = grind (arith, nat_tests, c.in_ok-get.ensures.lookup) in
    let opened : IsOpened chain l = grind (arith, nat_tests, c.in_ok-get.ensures.lookup) in
    c.as_open.ensures
    ∙ ap (λ state. open_in (leg_of state)) (c.in_ok-get.ensures.lookup.1 ∙ get_or_default legs l _ no_leg within)
    ∙ ap open_in (sym (leg_there chain l opened))

pub returns-else-leg-self-clause-value : goal.returns-else-leg-self-clause-value
returns-else-leg-self-clause-value c =
    let chain = c.args.self.now in
    let past : length (opened_legs chain) ≤ c.args.leg = grind (arith, nat_tests, length-take chain.opened chain.legs) in
    ap open_in (sym (item_past leg_of model.unused (opened_legs chain) c.args.leg past))

use Rattle.std.proofs.Common.{◌≡◌, nat_lt, List, length, ap, ◌∙◌, rules, tests}
use Rattle.std.specs.List.{position, position_or_len}
use Rattle.std.specs.Option.{unwrap_or}
use Rattle.std.proofs.lemmas.Iterator.{YieldsList-from_slice}
use Rattle.std.proofs.lemmas.Iterator.Search.{position_from_yields_List}
use Rattle.snapshot.specs.declared.account.Write.{Write}
use Rattle.engine_parts.proofs.WriteSetLemmas.{first_or_end}
use Rattle.engine_parts.proofs.write_set.WriteSet.place_by_order.Goals as goal

pub returns : goal.returns
returns c =
    let test = λ (held : Write). nat_lt c.args.key held.key in
    let ws : List Write = c.as_slice-writes.result.now in
    let e : c.position.result ≡ position test ws =
    position_from_yields_List test _ _ c.position.result c.position.ensures.ran (YieldsList-from_slice ws cc) (λ x b q k. search (rules, tests)) in
    c.unwrap_or.ensures
    ∙ ap (λ r. unwrap_or r (length ws)) e
    ∙ first_or_end test ws
    ∙ ap (position_or_len test) c.as_slice-writes.ensures.value

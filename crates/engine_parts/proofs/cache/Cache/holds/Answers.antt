use Rattle.std.proofs.Common.{ltb, ap, ◌∙◌, arith}
use Rattle.engine_model.specs.Caches.{holds}
use Rattle.engine_parts.proofs.CountLemmas.{held_if_counted}
use Rattle.engine_parts.specs.Caches.{cache_of, entries_of_key}
use Rattle.engine_parts.specs.Lists.{elements_of}
use Rattle.engine_parts.proofs.cache.Cache.holds.Goals as goal

pub returns : goal.returns
returns c =
    let k = c.args.key in
    let from = c.from.ensures in
    ap (ltb 0) (c.self.invariant c.from.result (omega arith))
    ∙ ap (λ i. ltb 0 (entries_of_key i (elements_of c.self.inside.entries))) from
    ∙ held_if_counted k (elements_of c.self.inside.entries)
    ∙ ap (λ v. holds k (cache_of v)) c.self.view_is

use Rattle.std.proofs.Common.{◌≡◌, ℕ, ◌<◌, [], Ok, Err, List, Result, length, get_or, set, ap, sym, ◌∙◌, rules}
use Rattle.snapshot.specs.Intervals.{narrowed}
use Rattle.std.proofs.lemmas.List.{set-get_or}
use Rattle.snapshot.specs.Refusals.{around_store}
use Rattle.snapshot.specs.declared.fault.EngineFault.{EngineFault}
use Rattle.engine_parts.proofs.ItemLemmas.{item_set, item_there}
use Rattle.engine_parts.specs.Caches.{CacheFields, cache_of, caches_of}
use Rattle.engine_model.specs.Caches as model_caches
use Rattle.engine_model.specs.Engines as model
use Rattle.engine_model.specs.Steps.{after_reading}
use Rattle.engine_model.specs.Updates.{with_at}
use Rattle.engine.proofs.ReadLemmas.{Further, read_answered, read_refused}
use Rattle.engine.specs.ChainCalls.{further_reading}
use Rattle.engine.specs.Chains.{chain_of}
use Rattle.engine.specs.Legs.{open_leg_of}
use Rattle.engine.proofs.chain.Chain.read.Goals as goal

pub returns-in-Ok-clause-made : goal.returns-in-Ok-clause-made
returns-in-Ok-clause-made g c =
    let n = c.args.named in
    let chain = chain_of c.args.self.now in
    let leg = open_leg_of c.in-Some.open.now in
    let caches = c.args.caches.now in
    let w = c.number-worker.result in
    let m = g.S.Reads.meaning c.args.store.now in
    let cache = cache_of c.look_further.new.cache in
    let further : Further n chain leg = record { open_leg = search rules; not_written = search rules; not_read = search rules; room = search rules } in
    let within : w < length caches = search rules in
    let there : caches_of caches leg.worker ≡ cache_of (get_or caches w c.index-caches-worker.result) =
    ap (caches_of caches) (sym c.number-worker.ensures.value) ∙ item_there cache_of [] caches w c.index-caches-worker.result within in
    let looked : further_reading m leg.interval n.key (caches_of caches leg.worker) ≡ (Ok c.in-Ok.reading, cache) =
    ap (further_reading m leg.interval n.key) there ∙ sym c.look_further.ensures.made ∙ ap (λ r. (r, cache)) c.in-Ok.is in
    let after : chain_of c.note.new.self ≡ after_reading narrowed n.leg n.key leg c.in-Ok.reading chain = search rules in
    let caches_after = item_set cache_of [] caches w c.look_further.new.cache within ∙ ap (λ i. with_at i cache (caches_of caches)) c.number-worker.ensures.value in
    read_answered n m chain (caches_of caches) leg further c.in-Ok.reading cache looked _ _ after caches_after

pub returns-in-Err-clause-made : goal.returns-in-Err-clause-made
returns-in-Err-clause-made g c =
    let n = c.args.named in
    let chain = chain_of c.args.self.now in
    let leg = open_leg_of c.in-Some.open.now in
    let caches = c.args.caches.now in
    let w = c.number-worker.result in
    let m = g.S.Reads.meaning c.args.store.now in
    let cache = cache_of c.look_further.new.cache in
    let further : Further n chain leg = record { open_leg = search rules; not_written = search rules; not_read = search rules; room = search rules } in
    let within : w < length caches = search rules in
    let there : caches_of caches leg.worker ≡ cache_of (get_or caches w c.index-caches-worker.result) =
    ap (caches_of caches) (sym c.number-worker.ensures.value) ∙ item_there cache_of [] caches w c.index-caches-worker.result within in
    let looked : further_reading m leg.interval n.key (caches_of caches leg.worker) ≡ (Err c.in-Err.fault, cache) =
    ap (further_reading m leg.interval n.key) there ∙ sym c.look_further.ensures.made ∙ ap (λ r. (r, cache)) c.in-Err.is in
    let same : set caches w c.look_further.new.cache ≡ caches = ap (set caches w) c.in-Err.ensures.unchanged ∙ set-get_or caches w _ in
    let P : EngineFault → List CacheFields → Result ℕ EngineFault × (model.Chain × (ℕ → model_caches.Cache)) = λ f cs. (Err f, (chain, caches_of cs)) in
    ap (λ f. P f (set caches w c.look_further.new.cache)) c.refused_by_store.ensures
    ∙ ap (P (around_store c.in-Err.fault n.place n.leg n.key)) same
    ∙ read_refused n m chain (caches_of caches) leg further c.in-Err.fault cache looked

-- A notice in the cache of its worker.
use Rattle.std.proofs.Common.{◌≡◌, ◌<◌, ◌≤◌, [], List, length, get_or, set, sym, ap, ◌∙◌}
use Rattle.engine_parts.proofs.ItemLemmas.{item_set, item_there, item_past}
use Rattle.engine_parts.specs.Caches.{CacheFields, cache_of, caches_of}
use Rattle.engine_model.proofs.Updates.{at_same_value}
use Rattle.engine_model.specs.Caches.{with_notice}
use Rattle.engine_model.specs.Updates.{with_at}
use Rattle.engine_model.specs.declared.records.Notice.{Notice}

pub notified_worker :
    (n : Notice) (caches : List CacheFields) (d after : CacheFields) → n.worker < length caches →
    cache_of after ≡ with_notice n (cache_of (get_or caches n.worker d)) →
    caches_of (set caches n.worker after) ≡ with_at n.worker (with_notice n (caches_of caches n.worker)) (caches_of caches)
notified_worker n caches d after within took =
    item_set cache_of [] caches n.worker after within
    ∙ ap
    (λ c. with_at n.worker c (caches_of caches))
    (took ∙ ap (with_notice n) (sym (item_there cache_of [] caches n.worker d within)))

-- of a worker that is not one of the eight there is no cache, and nothing changes
pub notified_nobody :
    (n : Notice) (caches : List CacheFields) → length caches ≤ n.worker →
    caches_of caches ≡ with_at n.worker (with_notice n (caches_of caches n.worker)) (caches_of caches)
notified_nobody n caches past =
    let none : caches_of caches n.worker ≡ [] = item_past cache_of [] caches n.worker past in
    sym (at_same_value n.worker _ (caches_of caches) (ap (with_notice n) none ∙ sym none))

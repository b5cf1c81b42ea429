use Rattle.std.proofs.Common.{ap, sym, ◌∙◌, arith}
use Rattle.std.proofs.lemmas.List.{get_or-replicate}
use Rattle.engine_parts.specs.Caches.{entries_of_key}
use Rattle.engine_parts.proofs.cache.Cache.new.Goals as goal

pub invariant_of-result : goal.invariant_of-result
invariant_of-result c k within = get_or-replicate 256 k 0 0 (omega arith) ∙ ap (entries_of_key k) (sym c.new.ensures)

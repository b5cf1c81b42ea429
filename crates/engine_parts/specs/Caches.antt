-- What a cache is made of, what caches mean in the model, and how a cache counts its entries.
use Rattle.std.specs.Prelude.{◌≡◌, ℕ, suc, ◌<◌, if◌then◌else◌, List, [], ◌∷◌, ◌==◌, slice_index_or}
use Rattle.engine_model.specs.Caches.{Cache}
use Rattle.engine_model.specs.declared.records.CacheEntry.{CacheEntry}
use Rattle.engine_parts.specs.Lists.{elements_of, item_at}
use Rattle.engine_parts.specs.declared.list.BoundedList.{BoundedList}

-- the fields of a cache: the list of its entries, and how many there are of each key
pub record CacheFields : Type 0 where
  pub entries : BoundedList CacheEntry 8
  pub counts : List ℕ

-- a cache's entries, the one used longest ago first
abbrev pub cache_of : CacheFields → Cache
cache_of c = elements_of c.entries

-- the cache of each worker, in the order of the list; a worker past its end has no entry
abbrev pub caches_of : List CacheFields → ℕ → Cache
caches_of cs = item_at cache_of [] cs

-- how many entries of a key there are
abbrev pub entries_of_key : ℕ → Cache → ℕ
entries_of_key k [] = 0
entries_of_key k (e ∷ es) = if e.key == k then suc (entries_of_key k es) else entries_of_key k es

-- the number at each key's place in the list is that of its entries
abbrev pub CountsEntries : List ℕ → Cache → Type 0
CountsEntries counts c = (k : ℕ) → k < 256 → slice_index_or counts k 0 ≡ entries_of_key k c

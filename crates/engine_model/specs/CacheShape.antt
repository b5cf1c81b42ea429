-- What a worker's cache is: at most eight entries, one for a key, in the order of their use.
use Rattle.std.specs.Prelude.{◌≡◌, ℕ, ◌<◌, ◌≤◌, [], ◌∷◌, ◌++◌, map, length, drop, Some, ◌≢◌}
use Rattle.std.specs.List.{AllByRecursion}
use Rattle.snapshot.specs.Limits.{cache_keys}
use Rattle.engine_model.specs.Caches.{Cache, look_up, used_latest, with_answer, with_notice}
use Rattle.engine_model.specs.Traces.{Trace, NewStore, engine_after}
use Rattle.engine_model.specs.Rules.{the_rules}
use Rattle.engine_model.specs.declared.records.CacheEntry.{CacheEntry}
use Rattle.engine_model.specs.declared.records.Notice.{Notice}

-- no entry is of this key
abbrev pub NoneOf : ℕ → Cache → Type 0
NoneOf k c = AllByRecursion (λ e. e.key ≢ k) c

-- no two entries are of one key
abbrev pub Apart : Cache → Type 0
Apart [] = Unit {0}
Apart (e ∷ es) = NoneOf e.key es × Apart es

-- a cache in shape
pub record Shaped (c : Cache) : Type 0 where
  pub few_enough : length c ≤ cache_keys
  pub apart : Apart c

pub record CacheShape : Type 0 where
  -- an empty cache is in shape, and a use, a store's answer and a notice keep it so
  pub empty : Shaped []
  pub used : (e : CacheEntry) (c : Cache) → Shaped c → Shaped (used_latest e c)
  pub stored : (s : ℕ) (e : CacheEntry) (c : Cache) → Shaped c → Shaped (with_answer s e c)
  pub notified : (n : Notice) (c : Cache) → Shaped c → Shaped (with_notice n c)
  -- an entry that is used is its key's entry, and the last
  pub found : (e : CacheEntry) (c : Cache) → Shaped c → look_up e.key (used_latest e c) ≡ Some e
  pub latest : (e : CacheEntry) (c : Cache) → (others : Cache) × (used_latest e c ≡ others ++ (e ∷ []))
  -- a new key joins the others
  pub joins : (e : CacheEntry) (c : Cache) → length c < cache_keys → NoneOf e.key c → used_latest e c ≡ c ++ (e ∷ [])
  -- and where there are eight, the one used longest ago gives way to it
  pub gives_way : (e : CacheEntry) (c : Cache) → length c ≡ cache_keys → NoneOf e.key c → used_latest e c ≡ drop 1 c ++ (e ∷ [])
  -- a notice leaves the keys in their order
  pub same_keys : (n : Notice) (c : Cache) → map (λ e. e.key) (with_notice n c) ≡ map (λ e. e.key) c

-- throughout every trace each worker's cache is in shape
abbrev pub ShapedInEveryTrace : Type 0
ShapedInEveryTrace = (store : NewStore) (trace : Trace) (w : ℕ) → Shaped ((engine_after the_rules store trace).caches w)

-- The rules that a step is built from, each in its place: what a store answers, how a reading narrows an interval, how a
-- timestamp is chosen, the caches, the write sets, and the limits of a chain.
use Rattle.std.specs.Prelude.{ℕ, Bool, List, Option, Result}
use Rattle.snapshot.specs.Intervals.{narrowed}
use Rattle.snapshot.specs.Limits as limit
use Rattle.snapshot.specs.declared.account.Reading.{Reading}
use Rattle.snapshot.specs.declared.account.Write.{Write}
use Rattle.snapshot.specs.declared.fault.Fault.{Fault}
use Rattle.snapshot.specs.declared.interval.Interval.{Interval}
use Rattle.store.specs.Meaning.{Meaning, Issuing, issued, version_answer}
use Rattle.engine_model.specs.Caches.{Cache, holds, answering, used_latest, with_answer, with_notice}
use Rattle.engine_model.specs.WriteSets.{with_write, united}
use Rattle.engine_model.specs.declared.limits.ChainLimits.{ChainLimits}
use Rattle.engine_model.specs.declared.records.CacheEntry.{CacheEntry}
use Rattle.engine_model.specs.declared.records.Notice.{Notice}

pub record CacheRules : Type 0 where
  -- the entry that answers a key on a leg with this interval, if there is one
  pub answer : Interval → ℕ → Cache → Option CacheEntry
  -- the cache after it answered so
  pub after_use : CacheEntry → Cache → Cache
  -- the cache after the store answered with this entry at this time
  pub after_store : ℕ → CacheEntry → Cache → Cache
  -- the cache after a notice was delivered to its worker
  pub after_notice : Notice → Cache → Cache
  -- does the worker hold the key, and so get a notice of it?
  pub holds_key : ℕ → Cache → Bool

pub record WriteSetRules : Type 0 where
  -- the write set after a write
  pub after_write : Write → List Write → List Write
  -- the write set of two joined legs, the first named first
  pub after_join : List Write → List Write → List Write

pub record Rules : Type 0 where
  -- what a store answers for a key at a time
  pub version : Meaning → ℕ → ℕ → Result Reading Fault
  -- a leg's interval after a reading
  pub narrow : Interval → Reading → Interval
  -- how a commit's timestamp is chosen
  pub timestamps : Issuing
  pub caches : CacheRules
  pub write_sets : WriteSetRules
  pub limits : ChainLimits

-- The rules that hold.

abbrev pub the_caches : CacheRules
the_caches =
    record { answer = answering; after_use = used_latest; after_store = with_answer; after_notice = with_notice; holds_key = holds }

abbrev pub the_write_sets : WriteSetRules
the_write_sets = record { after_write = with_write; after_join = united }

abbrev pub the_limits : ChainLimits
the_limits = record { write_keys = limit.write_keys; readings = limit.chain_readings }

abbrev pub rules_with : CacheRules → Issuing → WriteSetRules → ChainLimits → Rules
rules_with c t w l =
    record { version = version_answer; narrow = narrowed; timestamps = t; caches = c; write_sets = w; limits = l }

abbrev pub the_rules : Rules
the_rules = rules_with the_caches issued the_write_sets the_limits

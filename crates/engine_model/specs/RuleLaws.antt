-- What the law of traces rests on: the promises of caches, of write sets and of a chain's limits; those of timestamps are the
-- store's. Whatever keeps these can stand in their place.
use Rattle.std.specs.Prelude.{◌≡◌, ℕ, ◌≤◌, true, ◌⊎◌, List, Some}
use Rattle.std.specs.Option.{option_or}
use Rattle.std.specs.List.{ContainsAt as Has, AllByRecursion}
use Rattle.snapshot.specs.Accounts.{rising_from}
use Rattle.snapshot.specs.Intervals.{meets_reading}
use Rattle.snapshot.specs.Limits as limit
use Rattle.snapshot.specs.Limits.{is_key}
use Rattle.snapshot.specs.declared.account.Write.{Write}
use Rattle.snapshot.specs.declared.interval.Interval.{Interval}
use Rattle.store.specs.Laws.{IssuingLaws}
use Rattle.store.specs.Meaning.{Issuing, written_to}
use Rattle.engine_model.specs.Caches.{Cache, entry_of, widened}
use Rattle.engine_model.specs.Rules.{CacheRules, WriteSetRules, Rules, rules_with}
use Rattle.engine_model.specs.Updates.{with_at}
use Rattle.engine_model.specs.declared.limits.ChainLimits.{ChainLimits}
use Rattle.engine_model.specs.declared.records.CacheEntry.{CacheEntry}
use Rattle.engine_model.specs.declared.records.Notice.{Notice}

-- Caches.

-- an entry was there before, or is the one that was put in
abbrev pub AddedTo : Cache → CacheEntry → CacheEntry → Type 0
AddedTo c e x = Has c x ⊎ (x ≡ e)

-- an entry is that of the notice's key as it was, but with the larger of both promises, where both have one timestamp
pub record WidenedBy (n : Notice) (c : Cache) (x : CacheEntry) : Type 0 where
  pub old : CacheEntry
  pub there : Has c old
  pub same_key : old.key ≡ n.key
  pub same_time : old.reading.timestamp ≡ n.reading.timestamp
  pub as_widened : x ≡ entry_of old.key (widened old.reading n.reading.promise)

-- an entry was there before, or is the notice's, or was widened by it
abbrev pub AfterNotice : Cache → Notice → CacheEntry → Type 0
AfterNotice c n x = Has c x ⊎ ((x ≡ entry_of n.key n.reading) ⊎ WidenedBy n c x)

-- a cache shows nothing but what was put there or delivered, at most widened
pub record CacheLaws (rules : CacheRules) : Type 0 where
  -- the entry that answers is one that the cache has, of the key asked, and meets the interval
  pub answers :
      (i : Interval) (k : ℕ) (c : Cache) (e : CacheEntry) → rules.answer i k c ≡ Some e →
      Has c e × (e.key ≡ k) × (meets_reading i e.reading ≡ true)
  -- after a use or an answer of the store it has no entries but those it had and the one that was put in
  pub used : (e : CacheEntry) (c : Cache) → AllByRecursion (AddedTo c e) (rules.after_use e c)
  pub stored : (s : ℕ) (e : CacheEntry) (c : Cache) → AllByRecursion (AddedTo c e) (rules.after_store s e c)
  -- after a notice none but those it had, the notice's, and one that was widened by it
  pub notified : (n : Notice) (c : Cache) → AllByRecursion (AfterNotice c n) (rules.after_notice n c)

-- Write sets.

pub record WriteSetLaws (rules : WriteSetRules) : Type 0 where
  -- the keys go on rising strictly
  pub write_rises :
      (w : Write) (ws : List Write) → is_key w.key ≡ true → rising_from 0 ws ≡ true →
      rising_from 0 (rules.after_write w ws) ≡ true
  pub join_rises : (xs ys : List Write) → rising_from 0 xs ≡ true → rising_from 0 ys ≡ true → rising_from 0 (rules.after_join xs ys) ≡ true
  -- a written key has its new value, and every other key what it had
  pub write_has :
      (w : Write) (ws : List Write) (k : ℕ) → rising_from 0 ws ≡ true →
      written_to k (rules.after_write w ws) ≡ with_at w.key (Some w.value) (λ j. written_to j ws) k
  -- a key has the second set's value, or else the first's
  pub join_has :
      (xs ys : List Write) (k : ℕ) → rising_from 0 xs ≡ true → rising_from 0 ys ≡ true →
      written_to k (rules.after_join xs ys) ≡ option_or (written_to k ys) (written_to k xs)

-- Limits.

-- no more than the book and a store's commit take
pub record LimitLaws (limits : ChainLimits) : Type 0 where
  pub writes : limits.write_keys ≤ limit.write_keys
  pub readings : limits.readings ≤ limit.chain_readings

-- Parts of the rules that keep their laws.

pub record PartsWithLaws : Type 0 where
  pub caches : CacheRules
  pub cache_laws : CacheLaws caches
  pub timestamps : Issuing
  pub timestamp_laws : IssuingLaws timestamps
  pub write_sets : WriteSetRules
  pub write_set_laws : WriteSetLaws write_sets
  pub limits : ChainLimits
  pub limit_laws : LimitLaws limits

-- the rules that are built from them
abbrev pub rules_of : PartsWithLaws → Rules
rules_of parts = rules_with parts.caches parts.timestamps parts.write_sets parts.limits

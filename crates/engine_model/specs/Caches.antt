-- A worker's cache: its entries in the order of their use, the one used longest ago first.
use Rattle.std.specs.Prelude.{ℕ, ◌-◌, max, Bool, false, if◌then◌else◌, List, [], ◌∷◌, ◌++◌, length, drop, is_some, Some, None, Option, ◌==◌, nat_lt}
use Rattle.snapshot.specs.Intervals.{meets_reading}
use Rattle.snapshot.specs.Limits.{cache_keys}
use Rattle.snapshot.specs.declared.account.Reading.{Reading}
use Rattle.snapshot.specs.declared.interval.Interval.{Interval}
use Rattle.engine_model.specs.declared.records.CacheEntry.{CacheEntry}
use Rattle.engine_model.specs.declared.records.Notice.{Notice}

abbrev pub Cache : Type 0
Cache = List CacheEntry

abbrev pub entry_of : ℕ → Reading → CacheEntry
entry_of k r = record { key = k; reading = r }

-- the entry of a key, if there is one
abbrev pub look_up : ℕ → Cache → Option CacheEntry
look_up k [] = None
look_up k (e ∷ es) = if e.key == k then Some e else look_up k es

-- has it an entry of the key?
abbrev pub holds : ℕ → Cache → Bool
holds k c = is_some (look_up k c)

-- A read.

-- an entry, if there is one and it meets the interval
abbrev pub if_meets : Interval → Option CacheEntry → Option CacheEntry
if_meets i None = None
if_meets i (Some e) = if meets_reading i e.reading then Some e else None

-- the entry that answers a key: its entry, if that meets the interval
abbrev pub answering : Interval → ℕ → Cache → Option CacheEntry
answering i k c = if_meets i (look_up k c)

-- the entries but that of a key
abbrev pub without : ℕ → Cache → Cache
without k [] = []
without k (e ∷ es) = if e.key == k then es else e ∷ without k es

-- the last eight: what was used longest ago gives way to a ninth
abbrev pub last_eight : Cache → Cache
last_eight es = drop (length es - cache_keys) es

-- an entry becomes the latest used, in the place of its key's
abbrev pub used_latest : CacheEntry → Cache → Cache
used_latest e c = last_eight (without e.key c ++ (e ∷ []))

-- is this an entry with a timestamp above the time?
abbrev pub is_later_than : ℕ → Option CacheEntry → Bool
is_later_than s None = false
is_later_than s (Some e) = nat_lt s e.reading.timestamp

-- after the store answered for the key at time s: the answer goes in, unless the key's entry is later than s
abbrev pub with_answer : ℕ → CacheEntry → Cache → Cache
with_answer s e c = if is_later_than s (look_up e.key c) then c else used_latest e c

-- A notice.

-- a reading whose promise reaches this far at least
abbrev pub widened : Reading → ℕ → Reading
widened r p = record { value = r.value; timestamp = r.timestamp; promise = max r.promise p }

-- what a notice makes of a reading: a later one replaces it, of an equal one the larger promise is kept
abbrev pub noticed : Reading → Reading → Reading
noticed n r =
    if nat_lt r.timestamp n.timestamp then n else if r.timestamp == n.timestamp then widened r n.promise else r

-- after a notice: the key's entry, if there is one, stays in its place
abbrev pub with_notice : Notice → Cache → Cache
with_notice n [] = []
with_notice n (e ∷ es) =
    if e.key == n.key then entry_of e.key (noticed n.reading e.reading) ∷ es else e ∷ with_notice n es

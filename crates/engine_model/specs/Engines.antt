-- The state of an engine: open chains with their legs, caches, notices, and the meaning of the store below.
use Rattle.std.specs.Prelude.{ℕ, suc, Bool, true, false, List, [], ◌∷◌, ◌++◌, None, Option}
use Rattle.std.specs.List.{remove}
use Rattle.snapshot.specs.Intervals.{from_to}
use Rattle.snapshot.specs.Limits.{open_end}
use Rattle.snapshot.specs.declared.account.Write.{Write}
use Rattle.snapshot.specs.declared.interval.Interval.{Interval}
use Rattle.store.specs.Meaning.{Meaning}
use Rattle.engine_model.specs.Caches.{Cache}
use Rattle.engine_model.specs.Updates.{with_at}
use Rattle.engine_model.specs.declared.records.LegReading.{LegReading}
use Rattle.engine_model.specs.declared.records.Notice.{Notice}

-- Legs.

-- a leg that is open: the worker it runs on, the times at which its readings are known to agree, and what it has written
pub record OpenLeg : Type 0 where
  pub worker : ℕ
  pub interval : Interval
  pub writes : List Write

pub data LegState : Type 0 where
  unused : LegState
  running : OpenLeg → LegState
  ended : LegState

abbrev pub is_running : LegState → Bool
is_running unused = false
is_running (running leg) = true
is_running ended = false

-- the same leg on another worker
abbrev pub on_worker : ℕ → OpenLeg → OpenLeg
on_worker w leg = record { worker = w; interval = leg.interval; writes = leg.writes }

-- the same leg with another write set
abbrev pub with_write_set : List Write → OpenLeg → OpenLeg
with_write_set ws leg = record { worker = leg.worker; interval = leg.interval; writes = ws }

-- the same leg with another interval
abbrev pub with_interval : Interval → OpenLeg → OpenLeg
with_interval i leg = record { worker = leg.worker; interval = i; writes = leg.writes }

-- Chains.

-- the legs by their numbers, how many have been opened, and all readings in order
pub record Chain : Type 0 where
  pub legs : ℕ → LegState
  pub opened : ℕ
  pub readings : List LegReading

abbrev pub with_leg : ℕ → LegState → Chain → Chain
with_leg l state c = record { legs = with_at l state c.legs; opened = c.opened; readings = c.readings }

abbrev pub end_leg : ℕ → Chain → Chain
end_leg l c = with_leg l ended c

-- the next leg is opened
abbrev pub open_leg : OpenLeg → Chain → Chain
open_leg leg c =
    record { legs = with_at c.opened (running leg) c.legs; opened = suc c.opened; readings = c.readings }

abbrev pub add_reading : LegReading → Chain → Chain
add_reading r c = record { legs = c.legs; opened = c.opened; readings = c.readings ++ (r ∷ []) }

-- a chain of no legs, and one whose leg 0 has just been opened at a worker
abbrev pub no_legs : Chain
no_legs = record { legs = λ l. unused; opened = 0; readings = [] }

abbrev pub new_chain : ℕ → Chain
new_chain w = open_leg (record { worker = w; interval = from_to 0 open_end; writes = [] }) no_legs

-- Engines.

-- the notices that wait, and how many were lost
pub record Notices : Type 0 where
  pub waiting : List Notice
  pub lost : ℕ

-- none waits, and none was lost
abbrev pub no_notices : Notices
no_notices = record { waiting = []; lost = 0 }

-- without the notice at a position: later ones move up
abbrev pub without_notice : ℕ → Notices → Notices
without_notice i n = record { waiting = remove n.waiting i; lost = n.lost }

-- the chain at each place, the cache of each worker, the notices, and what the store means
pub record Engine : Type 0 where
  pub places : ℕ → Option Chain
  pub caches : ℕ → Cache
  pub notices : Notices
  pub store : Meaning

-- a new engine has no chain, no entry, no notice, and none that was lost
abbrev pub new_engine : Meaning → Engine
new_engine m =
    record { places = λ p. None; caches = λ w. []; notices = no_notices; store = m }

abbrev pub with_place : ℕ → Option Chain → Engine → Engine
with_place p c s =
    record { places = with_at p c s.places; caches = s.caches; notices = s.notices; store = s.store }

abbrev pub with_cache : ℕ → Cache → Engine → Engine
with_cache w c s =
    record { places = s.places; caches = with_at w c s.caches; notices = s.notices; store = s.store }

abbrev pub with_notices : Notices → Engine → Engine
with_notices n s = record { places = s.places; caches = s.caches; notices = n; store = s.store }

abbrev pub with_store : Meaning → Engine → Engine
with_store m s = record { places = s.places; caches = s.caches; notices = s.notices; store = m }

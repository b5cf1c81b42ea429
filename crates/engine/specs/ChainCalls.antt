-- What the calls that name a leg make of its chain: an answer or a fault, and the chain after it. A read also asks the
-- caches and the store, and changes the cache of the leg's worker. This stands between the code of a chain and the model's
-- step: each is shown to be the step once the chain stands in its place, and the contracts of the engine cite the step.
use Rattle.std.specs.Prelude.{ℕ, suc, if◌then◌else◌, length, Ok, Err, Result, nat_lt, ◌==◌}
use Rattle.std.specs.Option.{option_map_or}
use Rattle.snapshot.specs.Intervals.{narrowed}
use Rattle.snapshot.specs.Limits.{leg_count, chain_readings}
use Rattle.snapshot.specs.Refusals.{around_store}
use Rattle.snapshot.specs.declared.account.Reading.{Reading}
use Rattle.snapshot.specs.declared.fault.EngineFault.{EngineFault}
use Rattle.snapshot.specs.declared.fault.Fault.{Fault}
use Rattle.snapshot.specs.declared.fault.Refusal.{Refusal}
use Rattle.snapshot.specs.declared.fault.Refusal.TheVariants.{NotOpen, SameLeg, TooManyLegs, ReadingsFull}
use Rattle.snapshot.specs.declared.interval.Interval.{Interval}
use Rattle.store.specs.Meaning.{Meaning, version_answer, written_to}
use Rattle.engine_parts.specs.WriteSets.{fit_or_refused}
use Rattle.engine_model.specs.Caches.{Cache, entry_of, answering, used_latest, with_answer}
use Rattle.engine_model.specs.Engines.{LegState, OpenLeg, running, on_worker, with_write_set, Chain, with_leg, end_leg, open_leg}
use Rattle.engine_model.specs.Steps.{after_reading, chain_fault, own_reading}
use Rattle.engine_model.specs.Updates.{with_at}
use Rattle.engine_model.specs.WriteSets.{with_write}
use Rattle.engine.specs.Legs.{open_in, on_result, joined_leg}
use Rattle.engine.specs.declared.named.Named.{Named}

-- a refused call leaves everything as it is
abbrev pub refused_with : {X St : Type 0} → Named → St → Refusal → Result X EngineFault × St
refused_with n s r = (Err (chain_fault n.place n.leg n.key r), s)

-- what is made of a leg that is open, or else
abbrev pub on_open : {Z : Type 0} → LegState → Z → (OpenLeg → Z) → Z
on_open state other next = option_map_or next (open_in state) other

-- Legs that end and open.

-- a leg ends, and the next opens at worker w
abbrev pub after_hand : Named → ℕ → Chain → Result ℕ EngineFault × Chain
after_hand n w c =
    on_open (c.legs n.leg) (refused_with n c NotOpen) (λ leg.
    if nat_lt c.opened leg_count then (Ok c.opened, open_leg (on_worker w leg) (end_leg n.leg c)) else refused_with n c TooManyLegs)

-- a leg ends, and two open at workers w and v
abbrev pub after_fork : Named → ℕ → ℕ → Chain → Result (ℕ × ℕ) EngineFault × Chain
after_fork n w v c =
    on_open (c.legs n.leg) (refused_with n c NotOpen) (λ leg.
    if nat_lt (suc c.opened) leg_count
    then (Ok (c.opened, suc c.opened), open_leg (on_worker v leg) (open_leg (on_worker w leg) (end_leg n.leg c)))
    else refused_with n c TooManyLegs)

-- a leg and leg j end, and one opens at worker w with the times and the writes of both
abbrev pub after_join : Named → ℕ → ℕ → Chain → Result ℕ EngineFault × Chain
after_join n j w c =
    on_open (c.legs n.leg) (refused_with n c NotOpen) (λ leg.
    on_open (c.legs j) (refused_with n c NotOpen) (λ other.
    if n.leg == j then refused_with n c SameLeg
    else
    if nat_lt c.opened leg_count
    then
    on_result (joined_leg w leg other) (refused_with n c) (λ both.
    (Ok c.opened, open_leg both (end_leg j (end_leg n.leg c))))
    else refused_with n c TooManyLegs))

-- Writes.

-- the call's key has value x in the leg's write set
abbrev pub after_write : Named → ℕ → Chain → Result (Unit {0}) EngineFault × Chain
after_write n x c =
    on_open (c.legs n.leg) (refused_with n c NotOpen) (λ leg.
    on_result (fit_or_refused (with_write (record { key = n.key; value = x }) leg.writes)) (refused_with n c) (λ ws.
    (Ok tt, with_leg n.leg (running (with_write_set ws leg)) c)))

-- Reads.

-- a reading from the cache, if its entry meets the interval, or else from the store, and the cache after it
abbrev pub further_reading : Meaning → Interval → ℕ → Cache → Result Reading Fault × Cache
further_reading m i k cache =
    option_map_or
    (λ e. (Ok e.reading, used_latest e cache))
    (answering i k cache)
    (on_result (version_answer m k i.high) (λ f. (Err f, cache)) (λ r. (Ok r, with_answer i.high (entry_of k r) cache)))

-- a value from the cache or the store: the reading is noted in the chain, and the cache of the leg's worker changes
abbrev pub after_further_read : Named → Meaning → OpenLeg → Chain × (ℕ → Cache) → Result ℕ EngineFault × (Chain × (ℕ → Cache))
after_further_read n m leg (c, caches) =
    let (answer, cache) = further_reading m leg.interval n.key (caches leg.worker) in
    on_result answer
    (λ f. (Err (around_store f n.place n.leg n.key), (c, caches)))
    (λ r. (Ok r.value, (after_reading narrowed n.leg n.key leg r c, with_at leg.worker cache caches)))

-- a value from the leg's write set, or else from a reading of its own, or else from its worker's cache or the store
abbrev pub after_read : Named → Meaning → Chain × (ℕ → Cache) → Result ℕ EngineFault × (Chain × (ℕ → Cache))
after_read n m (c, caches) =
    on_open (c.legs n.leg) (refused_with n (c, caches) NotOpen) (λ leg.
    option_map_or (λ x. (Ok x, (c, caches))) (written_to n.key leg.writes)
    (option_map_or (λ r. (Ok r.made.reading.value, (c, caches))) (own_reading n.leg n.key c.readings)
    (if nat_lt (length c.readings) chain_readings then after_further_read n m leg (c, caches) else refused_with n (c, caches) ReadingsFull)))

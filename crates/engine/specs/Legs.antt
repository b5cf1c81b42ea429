-- What a leg means in the model, and what a call does to one.
use Rattle.std.specs.Prelude.{ℕ, List, Some, None, Ok, Err, Option, Result}
use Rattle.std.specs.Borrow.{Bor}
use Rattle.snapshot.specs.Intervals.{narrowed, joined_or_refused}
use Rattle.snapshot.specs.declared.account.Write.{Write}
use Rattle.snapshot.specs.declared.fault.Refusal.{Refusal}
use Rattle.snapshot.specs.declared.fault.Refusal.TheVariants.{NotOpen}
use Rattle.engine_parts.specs.WriteSets.{writes_of, fit_or_refused}
use Rattle.engine_model.specs.Engines as model
use Rattle.engine_model.specs.WriteSets.{with_write, united}
use Rattle.engine.specs.Workers.{worker_number}
use Rattle.engine.specs.declared.leg.Leg.{Leg}
use Rattle.engine.specs.declared.leg.LegCall.{LegCall}
use Rattle.engine.specs.declared.leg.LegCall.TheVariants as call
use Rattle.engine.specs.declared.leg.LegState.{LegState}
use Rattle.engine.specs.declared.leg.LegState.TheVariants as state
use Rattle.engine.specs.declared.leg.OpenLeg.{OpenLeg}

-- a leg that is open, as the model has it
abbrev pub open_leg_of : OpenLeg → model.OpenLeg
open_leg_of o = record { worker = worker_number o.worker; interval = o.interval; writes = writes_of o.writes }

-- the same of a leg that is lent
abbrev pub lent_leg : Bor OpenLeg → model.OpenLeg
lent_leg o = open_leg_of o.now

-- a leg by its number: unused, running or ended
abbrev pub leg_in : LegState → OpenLeg → model.LegState
leg_in state.Unused o = model.unused
leg_in state.Open o = model.running (open_leg_of o)
leg_in state.Ended o = model.ended

abbrev pub leg_of : Leg → model.LegState
leg_of l = leg_in l.state l.leg

-- the open leg, if the leg is open
abbrev pub open_in : model.LegState → Option model.OpenLeg
open_in model.unused = None
open_in (model.running l) = Some l
open_in model.ended = None

-- an open leg after a write, if the write set can take it
abbrev pub leg_with_writes : model.OpenLeg → Result (List Write) Refusal → Result (Unit {0}) Refusal × model.LegState
leg_with_writes l (Ok ws) = (Ok tt, model.running (model.with_write_set ws l))
leg_with_writes l (Err r) = (Err r, model.running l)

-- what becomes of a leg at a call: narrowed, written to or ended, or refused where it is not open
abbrev pub leg_after : LegCall → model.LegState → Result (Unit {0}) Refusal × model.LegState
leg_after c model.unused = (Err NotOpen, model.unused)
leg_after (call.Narrow r) (model.running l) = (Ok tt, model.running (model.with_interval (narrowed l.interval r) l))
leg_after (call.Write w) (model.running l) = leg_with_writes l (fit_or_refused (with_write w l.writes))
leg_after call.End (model.running l) = (Ok tt, model.ended)
leg_after c model.ended = (Err NotOpen, model.ended)

-- what is made of a result, or of its refusal
abbrev pub on_result : {Y E Z : Type 0} → Result Y E → (E → Z) → (Y → Z) → Z
on_result (Ok y) other next = next y
on_result (Err r) other next = other r

-- two legs joined at a worker, with the times of both and the writes of both
abbrev pub joined_leg : ℕ → model.OpenLeg → model.OpenLeg → Result model.OpenLeg Refusal
joined_leg w leg other =
    on_result (joined_or_refused leg.interval other.interval) Err (λ i.
    on_result (fit_or_refused (united leg.writes other.writes)) Err (λ ws.
    Ok (record { worker = w; interval = i; writes = ws })))

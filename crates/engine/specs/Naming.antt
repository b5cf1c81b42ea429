-- What a call names, and that it is refused where a number is out of range.
use Rattle.std.specs.Prelude.{ℕ, Bool, if◌then◌else◌, ◌&&◌, Ok, Err, Result}
use Rattle.snapshot.specs.Limits.{is_key, is_place, is_leg}
use Rattle.snapshot.specs.declared.fault.EngineFault.{EngineFault}
use Rattle.snapshot.specs.declared.fault.Refusal.TheVariants.{OutOfRange}
use Rattle.engine_model.specs.Steps.{chain_fault}
use Rattle.engine.specs.declared.named.Named.{Named}

-- the place, leg and key that a call names
abbrev pub naming : ℕ → ℕ → ℕ → Named
naming p l k = record { place = p; leg = l; key = k }

-- refused as out of range unless the test passed
abbrev pub in_range_or_refused : Named → Bool → Result (Unit {0}) EngineFault
in_range_or_refused n ok = if ok then Ok tt else Err (chain_fault n.place n.leg n.key OutOfRange)

-- are the numbers in range of a call that names a place, a leg, or a key?
abbrev pub place_in_range : Named → Bool
place_in_range n = is_place n.place

abbrev pub leg_in_range : Named → Bool
leg_in_range n = place_in_range n && is_leg n.leg

abbrev pub key_in_range : Named → Bool
key_in_range n = leg_in_range n && is_key n.key

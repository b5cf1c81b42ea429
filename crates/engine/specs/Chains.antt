-- What a chain means in the model.
use Rattle.std.specs.Prelude.{take}
use Rattle.engine_parts.specs.KeysRead.{readings_of}
use Rattle.engine_parts.specs.Lists.{item_at}
use Rattle.engine_model.specs.Engines as model
use Rattle.engine.specs.Legs.{leg_of}
use Rattle.engine.specs.declared.chain.Chain.{Chain}

-- its legs by their numbers, of which those from the number of opened ones on are unused, how many have been opened, and its
-- readings in order
abbrev pub chain_of : Chain → model.Chain
chain_of c = record { legs = item_at leg_of model.unused (take c.opened c.legs); opened = c.opened; readings = readings_of c.readings }

-- What a place means in the model.
use Rattle.std.specs.Prelude.{if◌then◌else◌, Some, None, Option}
use Rattle.engine_model.specs.Engines as model
use Rattle.engine.specs.Chains.{chain_of}
use Rattle.engine.specs.declared.place.Place.{Place}

-- the chain that is open there, if there is one
abbrev pub chain_at : Place → Option model.Chain
chain_at p = if p.is_taken then Some (chain_of p.chain) else None

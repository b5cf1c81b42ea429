use Rattle.engine.proofs.EngineLemmas.{no_chains}
use Rattle.engine.proofs.place.free_places.Goals as goal

pub returns : goal.returns
returns c p = no_chains c.new.result c.new-2.result c.new-3.result c.new-4.result c.new.ensures c.new-2.ensures c.new-3.ensures c.new-4.ensures p

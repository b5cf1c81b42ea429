-- The traces are computed in lemmas.
use Rattle.engine_model.proofs.ExampleProofs.{late_promise, late_promise_listed}
use Rattle.engine_model.proofs.examples.read_from_cache.Goals as goal

pub returns-clause-lists : goal.returns-clause-lists
returns-clause-lists c = late_promise_listed

pub returns-clause-breaks : goal.returns-clause-breaks
returns-clause-breaks c = late_promise

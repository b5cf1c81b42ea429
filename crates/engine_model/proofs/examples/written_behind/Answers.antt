-- The trace is computed in a lemma.
use Rattle.engine_model.proofs.ExampleProofs.{ignored_promise}
use Rattle.engine_model.proofs.examples.written_behind.Goals as goal

pub returns-clause-breaks : goal.returns-clause-breaks
returns-clause-breaks c = ignored_promise

-- The trace is computed in lemmas.
use Rattle.engine_model.proofs.ExampleProofs.{break_in_shows}
use Rattle.engine_model.proofs.examples.break_in.Goals as goal

pub returns-clause-shows : goal.returns-clause-shows
returns-clause-shows c = break_in_shows

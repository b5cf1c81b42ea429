-- Each trace is computed in a lemma.
use Rattle.model_tests.proofs.Computed.{all_agree}
use Rattle.model_tests.proofs.traces.Goals as goal

pub returns-clause-agree : goal.returns-clause-agree
returns-clause-agree c = all_agree

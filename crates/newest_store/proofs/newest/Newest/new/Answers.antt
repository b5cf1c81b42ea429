-- Every place has value 0 at time 0.
use Rattle.newest_store.proofs.Keeping.{new_meaning}
use Rattle.newest_store.proofs.newest.Newest.new.Goals as goal

pub returns : goal.returns
returns c = new_meaning

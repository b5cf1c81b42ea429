-- One changed byte changes the exclusive-or.
use Rattle.book.proofs.Changes.{one_change}
use Rattle.book.proofs.sum.last_byte.Goals as goal

pub returns-clause-detects : goal.returns-clause-detects
returns-clause-detects c = one_change c.args.body.now

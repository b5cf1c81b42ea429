use Rattle.std.proofs.Common.{rules}
use Rattle.snapshot.proofs.Numbers.{numbered_as}
use Rattle.snapshot.proofs.fault.Refusal.number.Goals as goal

pub returns-clause-own : goal.returns-clause-own
returns-clause-own c = numbered_as c.args.self _ (search rules)

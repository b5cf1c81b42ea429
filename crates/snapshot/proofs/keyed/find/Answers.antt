use Rattle.std.proofs.Common.{rules}
use Rattle.snapshot.proofs.Firsts.{first_is}
use Rattle.snapshot.proofs.keyed.find.Goals as goal

pub returns-clause-value : goal.returns-clause-value
returns-clause-value g c = first_is (λ x. g.T.Keyed.named x c.args.key) c.args.records.now _ (search rules)

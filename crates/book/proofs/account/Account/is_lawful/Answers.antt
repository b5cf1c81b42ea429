-- Ends that agree with the readings tell the times at which all of them were current.
use Rattle.std.proofs.Common.{sym, ◌∙◌}
use Rattle.std.proofs.lemmas.Bool.{and_parts}
use Rattle.snapshot.proofs.Agreement.{ends_agree}
use Rattle.book.specs.Format.{as_account}
use Rattle.book.proofs.account.Account.is_lawful.Goals as goal

pub returns-clause-means : goal.returns-clause-means
returns-clause-means c = λ e. ends_agree (as_account c.args.self.now) (sym c.is_agreed.ensures ∙ (and_parts _ _ (and_parts _ _ e).0).1)

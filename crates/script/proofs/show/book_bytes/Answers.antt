-- The writer takes a lawful account, and no other.
use Rattle.std.proofs.Common.{rules, ap, sym, ◌∙◌}
use Rattle.book.specs.Format.{as_account}
use Rattle.script.proofs.BookProofs.{not_accepted}
use Rattle.script.proofs.show.book_bytes.Goals as goal

pub returns-in-Err : goal.returns-in-Err
returns-in-Err c =
    let h = not_accepted (as_account c.args.account.now) _ c.in-Err.refused (search rules) (sym c.in-Err.is ∙ c.write.ensures.value) in
    (h.0, ap (λ f. f.fault) h.1)

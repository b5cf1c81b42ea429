-- The last record of the key that is not later decides, and the first later one says up to when it is current.
use Rattle.std.proofs.Common.{None, Some, sym, refl, ◌∙◌}
use Rattle.records.proofs.Outdated.{newest_is}
use Rattle.record_store.proofs.looking.newest_at.Goals as goal

pub returns-in_err-found : goal.returns-in_err-found
returns-in_err-found g c =
    let end = c.count_up_to-end in
    c.from_residual.ensures
    ∙ newest_is _ end.result c.args.kept c.args.time end.ensures.within c.requires.within end.ensures.before end.ensures.after c.args.key c.args.last _ None refl (sym c.in_err-found.was ∙ c.last_of_key.ensures)

pub returns : goal.returns
returns g c =
    let end = c.count_up_to-end in
    newest_is _ end.result c.args.kept c.args.time end.ensures.within c.requires.within end.ensures.before end.ensures.after c.args.key c.args.last _ (Some c.in_ok-found.found) c.promise_after.ensures c.in_ok-found.ensures

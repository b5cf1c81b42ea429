-- Each turn reads one account more, or ends at a refused one.
use Rattle.std.proofs.Common.{vec_capacity, arith, rules}
use Rattle.std.proofs.lemmas.Bool.{false≢true}
use Rattle.book.proofs.Listings.{goes_on, behind_more, has_room, read_behind}
use Rattle.book.proofs.listing.read_book.Goals as goal

pub returns-in_err-push-in-Ok-clause-succeeds : goal.returns-in_err-push-in-Ok-clause-succeeds
returns-in_err-push-in-Ok-clause-succeeds c =
    λ enough.
    let room = has_room c.loop-start.invariant.0 (vec_capacity c.loop-start.heads) c.in-Ok.ensures (omega (arith, enough, c.args.heads.now.ok.0)) in
    absurd (false≢true (c.in_err-push-in-Ok.ensures.succeeds (omega (arith, room, c.loop-start.heads.ok.0))))

pub returns-in_err-push-in-Ok-clause-so_far : goal.returns-in_err-push-in-Ok-clause-so_far
returns-in_err-push-in-Ok-clause-so_far c =
    search (rules, read_behind c.loop-start.invariant.0 c.in-Ok.ensures c.in_err-push-in-Ok.ensures.items)

pub loop-start-smaller : goal.loop-start-smaller
loop-start-smaller c = omega (arith, goes_on c.in-Ok.ensures)

pub loop-start-preserved : goal.loop-start-preserved
loop-start-preserved c = (behind_more c.loop-start.invariant.0 c.in-Ok.ensures c.in_ok-push-in-Ok.ensures.items, omega arith)

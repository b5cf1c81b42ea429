-- The listing is that of the first bytes of the input.
use Rattle.std.proofs.Common.{ap}
use Rattle.book.specs.Books.{GainsFront, GainsListing}
use Rattle.print_book.proofs.Fronts.{of_front, on_err}
use Rattle.print_book.proofs.list_front.Goals as goal

pub returns-in_err-list_book-clause-front : goal.returns-in_err-list_book-clause-front
returns-in_err-list_book-clause-front g c =
    let before = g.W.Write.contents c.args.output.now in
    let after = g.W.Write.contents c.list_book.new.output in
    on_err c.from_residual.result
    (of_front (λ book. GainsFront book before after) _ _ _ c.take-front.ensures.limit (ap g.R.Read.remaining c.take-front.ensures.inner) c.in_err-list_book.ensures.front)

pub returns-then-limit-eq0-clause-lists : goal.returns-then-limit-eq0-clause-lists
returns-then-limit-eq0-clause-lists g c =
    let before = g.W.Write.contents c.args.output.now in
    let after = g.W.Write.contents c.list_book.new.output in
    of_front (λ book. GainsListing book before after) _ _ _ c.take-front.ensures.limit (ap g.R.Read.remaining c.take-front.ensures.inner) c.in_ok-list_book.ensures.lists

pub returns-else-limit-eq0-clause-lists : goal.returns-else-limit-eq0-clause-lists
returns-else-limit-eq0-clause-lists g c =
    let before = g.W.Write.contents c.args.output.now in
    let after = g.W.Write.contents c.list_book.new.output in
    of_front (λ book. GainsListing book before after) _ _ _ c.take-front.ensures.limit (ap g.R.Read.remaining c.take-front.ensures.inner) c.in_ok-list_book.ensures.lists

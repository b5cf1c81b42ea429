use Rattle.std.proofs.Common.{rules, subst, sym}
use Rattle.std.specs.Prelude.{OnErr, IfSome, take}
use Rattle.book.specs.Books.{GainsFront, most_bytes}
use Rattle.book.proofs.Outputs.{fails_front}
use Rattle.book.proofs.output.list_book.Goals as goal

-- src/output.rt:28:1
pub returns-clause-front : goal.returns-clause-front
returns-clause-front g c =
    let made = fails_front (g.R.Read.remaining c.args.input) _ _ c.in_ok-book.book.items c.as_bytes.result.now c.in_ok-book.extent c.in_ok-book.extent c.write_whole.result (search rules) (search rules) c.write_whole.ensures in
    subst (λ r. OnErr r (IfSome (g.R.Read.remaining c.args.input) (λ rest. GainsFront (take most_bytes rest) (g.W.Write.contents c.args.output.now) (g.W.Write.contents c.write_whole.new.output)))) (sym c.and.ensures) made

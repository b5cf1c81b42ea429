-- The account's bytes come first, and then the line.
use Rattle.std.proofs.Common.{◌≡◌, [], Err, rules, arith, length-append}
use Rattle.script.specs.Played.{result_line}
use Rattle.script.specs.Shown.{booked_bytes, lent_outcome}
use Rattle.script.proofs.WritingProofs.{book_failed, then_printed}
use Rattle.std.proofs.KnownBytes.{Appends-nil}
use Rattle.script.proofs.outputs.Outputs.write_outcome.Goals as goal

pub returns-in_err-write_account : goal.returns-in_err-write_account
returns-in_err-write_account g c =
    let failed : c.from_residual.result ≡ Err c.in_err-write_account.field-0.0 = search rules in
    let outputs = c.args.self.now in
    book_failed
    c.from_residual.result
    c.in_err-write_account.field-0.0
    (g.W.Write.contents outputs.printed)
    (g.B.Write.contents outputs.book)
    (g.B.Write.contents c.write_account.new.output)
    (g.M.Write.contents outputs.messages)
    (result_line (g.C.Append.text c.args.call.now) (lent_outcome c.args.outcome))
    (booked_bytes (lent_outcome c.args.outcome))
    failed
    (omega (arith, length-append (g.C.Append.text c.args.call.now)))
    c.in_err-write_account.ensures

pub returns : goal.returns
returns g c =
    let outputs = c.args.self.now in
    then_printed
    c.write_outcome.result
    (g.W.Write.contents outputs.printed)
    (g.W.Write.contents c.write_outcome.new.output)
    (g.B.Write.contents outputs.book)
    (g.B.Write.contents c.write_account.new.output)
    (g.M.Write.contents outputs.messages)
    (g.M.Write.contents outputs.messages)
    (result_line (g.C.Append.text c.args.call.now) (lent_outcome c.args.outcome))
    (booked_bytes (lent_outcome c.args.outcome))
    []
    c.in_ok-write_account.ensures
    (Appends-nil (g.M.Write.contents outputs.messages))
    c.write_outcome.ensures

-- The message comes first, and then the line.
use Rattle.std.proofs.Common.{◌≡◌, Err, rules, arith, []}
use Rattle.script.specs.BadLines.{message}
use Rattle.script.specs.Played.{bad_line}
use Rattle.script.proofs.WritingProofs.{messages_failed, then_printed}
use Rattle.std.proofs.KnownBytes.{Appends-nil}
use Rattle.script.proofs.outputs.Outputs.write_bad.Goals as goal

pub returns-in_err-write_message : goal.returns-in_err-write_message
returns-in_err-write_message g c =
    let failed : c.from_residual.result ≡ Err c.in_err-write_message.field-0.0 = search rules in
    let outputs = c.args.self.now in
    messages_failed
    c.from_residual.result
    c.in_err-write_message.field-0.0
    (g.W.Write.contents outputs.printed)
    (g.B.Write.contents outputs.book)
    (g.M.Write.contents outputs.messages)
    (g.M.Write.contents c.write_message.new.output)
    (bad_line c.args.number)
    (message c.args.number c.args.bad)
    failed
    (omega arith)
    c.in_err-write_message.ensures

pub returns : goal.returns
returns g c =
    let outputs = c.args.self.now in
    then_printed
    c.write_bad.result
    (g.W.Write.contents outputs.printed)
    (g.W.Write.contents c.write_bad.new.output)
    (g.B.Write.contents outputs.book)
    (g.B.Write.contents outputs.book)
    (g.M.Write.contents outputs.messages)
    (g.M.Write.contents c.write_message.new.output)
    (bad_line c.args.number)
    []
    (message c.args.number c.args.bad)
    (Appends-nil (g.B.Write.contents outputs.book))
    c.in_ok-write_message.ensures
    c.write_bad.ensures

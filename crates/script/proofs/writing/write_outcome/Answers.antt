-- Where there is no memory for the text, none of it was written.
use Rattle.std.proofs.Common.{◌≡◌, Err, rules}
use Rattle.script.specs.Shown.{lent_outcome}
use Rattle.script.specs.declared.error.PlayError.TheVariants.{Memory}
use Rattle.script.proofs.WritingProofs.{no_memory}
use Rattle.script.proofs.writing.write_outcome.Goals as goal

pub returns-in_err-map_err : goal.returns-in_err-map_err
returns-in_err-map_err g c =
    let failed : c.from_residual.result ≡ Err Memory = search rules in
    no_memory
    (g.W.Write.contents c.args.output.now)
    (g.C.Append.text c.args.call.now)
    (lent_outcome c.args.outcome)
    c.from_residual.result
    failed

-- The line of one more reading is added.
use Rattle.std.proofs.Common.{rules, arith, ◌≡◌, ◌++◌, ap, get_or, append_assoc}
use Rattle.snapshot.specs.declared.account.ChainReading.{ChainReading}
use Rattle.script.specs.Shown.{reading_line}
use Rattle.script.proofs.ListProofs.{lines_more}
use Rattle.script.proofs.show.append_readings.Goals as goal

pub loop-made-preserved : goal.loop-made-preserved
loop-made-preserved c =
    let none : ChainReading = record { worker = 0; key = 0; reading = record { value = 0; timestamp = 0; promise = 0 } } in
    let i = c.loop-made.made-index in
    let added : c.append_numbers.new.line.items ≡ c.loop-made.line.items ++ reading_line (get_or c.args.readings.now i none) = search rules in
    rw (added, c.loop-made.invariant, append_assoc) (ap (λ ds. c.args.line.now.items ++ ds) (lines_more reading_line c.args.readings.now i none (omega arith)))

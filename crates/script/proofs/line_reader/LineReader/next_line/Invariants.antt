-- What was read of the line so far has no newline, and the output has only passed bytes on.
use Rattle.std.proofs.Common.{◌≢◌, All}
use Rattle.std.specs.Io.KnownBytes.{Consumes, Keeps}
use Rattle.script.proofs.line_reader.LineReader.next_line.Given as goal

abbrev pub invariant-loop-turn : goal.invariant-loop-turn
invariant-loop-turn g l =
    Consumes (g.R.Read.remaining l.initial.self.source) (g.R.Read.remaining l.self.source) l.memory.items
    × All (λ x. x ≢ 10) l.memory.items
    × Keeps (g.W.Write.contents l.initial.printed) (g.W.Write.contents l.printed)

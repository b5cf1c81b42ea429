-- The parts that were read of a line are the line.
use Rattle.std.proofs.KnownBytes.{Keeps-trans}
use Rattle.script.specs.ReadLines.{GoesOn}
use Rattle.script.proofs.LineProofs.{end_read, goes_on, line_read}
use Rattle.script.proofs.line_reader.LineReader.next_line.Goals as goal

pub returns-in-Line-clause-line : goal.returns-in-Line-clause-line
returns-in-Line-clause-line g c =
    (line_read
    (g.R.Read.remaining c.args.self.now.source)
    (g.R.Read.remaining c.loop-turn.self.source)
    (g.R.Read.remaining c.read_part.new.source)
    c.loop-turn.memory.items
    c.in-Line.line
    c.loop-turn.invariant.0
    c.loop-turn.invariant.1
    (rw c.in-Line.is at c.in_ok-part.ensures.part)).0

pub returns-in-Line-clause-rest : goal.returns-in-Line-clause-rest
returns-in-Line-clause-rest g c =
    (line_read
    (g.R.Read.remaining c.args.self.now.source)
    (g.R.Read.remaining c.loop-turn.self.source)
    (g.R.Read.remaining c.read_part.new.source)
    c.loop-turn.memory.items
    c.in-Line.line
    c.loop-turn.invariant.0
    c.loop-turn.invariant.1
    (rw c.in-Line.is at c.in_ok-part.ensures.part)).1

pub returns-in-End-clause-line : goal.returns-in-End-clause-line
returns-in-End-clause-line g c =
    (end_read
    (g.R.Read.remaining c.args.self.now.source)
    (g.R.Read.remaining c.loop-turn.self.source)
    (g.R.Read.remaining c.read_part.new.source)
    c.loop-turn.memory.items
    c.loop-turn.invariant.0
    c.loop-turn.invariant.1
    (rw c.in-End.is at c.in_ok-part.ensures.part)).0

pub returns-in-End-clause-rest : goal.returns-in-End-clause-rest
returns-in-End-clause-rest g c =
    (end_read
    (g.R.Read.remaining c.args.self.now.source)
    (g.R.Read.remaining c.loop-turn.self.source)
    (g.R.Read.remaining c.read_part.new.source)
    c.loop-turn.memory.items
    c.loop-turn.invariant.0
    c.loop-turn.invariant.1
    (rw c.in-End.is at c.in_ok-part.ensures.part)).1

pub loop-turn-preserved : goal.loop-turn-preserved
loop-turn-preserved g c =
    let more : GoesOn (g.R.Read.remaining c.loop-turn.self.source) (g.R.Read.remaining c.read_part.new.source) c.loop-turn.memory.items c.read_part.new.memory.items = rw c.in-More.is at c.in_ok-part.ensures.part in
    let read = goes_on (g.R.Read.remaining c.args.self.now.source) (g.R.Read.remaining c.loop-turn.self.source) (g.R.Read.remaining c.read_part.new.source) c.loop-turn.memory.items c.read_part.new.memory.items c.loop-turn.invariant.0 c.loop-turn.invariant.1 more in (
      read.0,
      read.1,
      Keeps-trans (g.W.Write.contents c.args.printed.now) (g.W.Write.contents c.loop-turn.printed) (g.W.Write.contents c.flush_before_waiting.new.printed) c.loop-turn.invariant.2 c.flush_before_waiting.ensures,
    )

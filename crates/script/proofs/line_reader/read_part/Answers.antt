-- The input loses what was taken of the line.
use Rattle.std.proofs.Common.{subst}
use Rattle.std.proofs.BufReadLemmas.{Consumes_shown}
use Rattle.std.specs.Io.BufRead.{FillKeeps}
use Rattle.script.proofs.LineProofs.{reads_part}
use Rattle.script.proofs.line_reader.read_part.Goals as goal

pub returns-clause-part : goal.returns-clause-part
returns-clause-part g c =
    let rested = c.fill_buf.follows.lender-at-none in
    let filled = subst (FillKeeps _ (g.R.Read.remaining rested) (g.R.BufRead.consumable_len rested)) c.in-Ok.is c.fill_buf.follows.holds-at-none in
    let size = c.front_of_line-size.result.0 in
    reads_part
    c.in_ok-part.part
    (g.R.Read.remaining c.args.source.now)
    (g.R.Read.remaining c.consume.new.self)
    c.args.memory.now.items
    c.take_part.new.memory.items
    c.in-Ok.shown.now
    size
    c.front_of_line-size.result.1
    c.front_of_line-size.ensures
    (Consumes_shown
    (g.R.Read.remaining c.args.source.now)
    (g.R.Read.remaining rested)
    (g.R.Read.remaining c.consume.new.self)
    (g.R.BufRead.consumable_len rested)
    c.in-Ok.shown.now
    size
    c.front_of_line-size.ensures.within
    c.in-Ok.ensures.front
    c.in-Ok.ensures.end
    filled.0
    filled.1
    c.consume.ensures.bytes)
    c.in_ok-part.ensures.whole
    c.in_ok-part.ensures.more
    c.in_ok-part.ensures.kept

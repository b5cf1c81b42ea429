-- So many bytes were written; each try makes the tries fewer.
use Rattle.book.proofs.Outputs.{Written}
use Rattle.book.proofs.output.write_whole.Given as goal

abbrev pub invariant-loop-written : goal.invariant-loop-written
invariant-loop-written g l =
    Written (g.W.Write.contents l.initial.output) (g.W.Write.contents l.output) l.bytes l.written

abbrev pub decreases-loop-written : goal.decreases-loop-written
decreases-loop-written g l = l.tries

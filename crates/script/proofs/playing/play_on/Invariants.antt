-- What is left of the input writes what is left of the whole.
use Rattle.std.proofs.Common.{◌+◌}
use Rattle.engine.specs.Engines.{engine_of}
use Rattle.script.specs.Played.{parsed_lines, played_on}
use Rattle.script.specs.Sinks.{Sink, held}
use Rattle.script.proofs.PlayProofs.{Playing}
use Rattle.script.proofs.playing.play_on.Given as goal

abbrev pub invariant-loop-before : goal.invariant-loop-before
invariant-loop-before g l =
    (k : Sink) →
    Playing
    (g.R.Read.remaining l.initial.input.source)
    (g.R.Read.remaining l.input.source)
    (held g.W.Write.contents g.B.Write.contents g.M.Write.contents l.initial.outputs k)
    (held g.W.Write.contents g.B.Write.contents g.M.Write.contents l.outputs k)
    (λ first. played_on k g.S.Store.DEPTH (engine_of g.S.Reads.meaning l.initial.engine) (l.lines + 1) (parsed_lines first))
    (λ rest. played_on k g.S.Store.DEPTH (engine_of g.S.Reads.meaning l.engine) (l.before + 1) (parsed_lines rest))
    l.lines
    l.before

-- What is left of the input writes what is left of the whole.
use Rattle.std.proofs.Common.{◌+◌}
use Rattle.script.specs.Played.{parsed_lines, played, script_text}
use Rattle.script.specs.Sinks.{Sink, held}
use Rattle.script.proofs.PlayProofs.{Playing}
use Rattle.script.proofs.playing.play_script.Given as goal

abbrev pub invariant-loop-lines : goal.invariant-loop-lines
invariant-loop-lines g l =
    (k : Sink) →
    Playing
    (g.R.Read.remaining l.initial.input.source)
    (g.R.Read.remaining l.input.source)
    (held g.W.Write.contents g.B.Write.contents g.M.Write.contents l.initial.outputs k)
    (held g.W.Write.contents g.B.Write.contents g.M.Write.contents l.outputs k)
    (script_text k)
    (λ rest. played k (l.lines + 1) (parsed_lines rest))
    0
    l.lines

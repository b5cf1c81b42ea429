-- Each line prints what the rules draw for it, the last leaves nothing, and an error leaves what it says.
use Rattle.std.proofs.Common.{◌≡◌, ◌+◌, ◌∷◌, [], Some, Err, refl, ap, ◌∙◌, rules, arith}
use Rattle.std.proofs.KnownBytes.{Appends-nil}
use Rattle.script.specs.Played.{played, parsed_lines, bad_parts, script_text}
use Rattle.script.specs.declared.line.Line.TheVariants as line
use Rattle.script.specs.Sinks.{held}
use Rattle.script.proofs.PlayProofs.{flushed, closes, ends, steps, uncounted, unread, unwritten}
use Rattle.script.proofs.playing.play_script.Goals as goal
use Rattle.script.proofs.playing.play_script.Goals.{in-Blank, in-Bad+in_ok-write_bad-in-Bad}

pub returns-in_default : goal.returns-in_default
returns-in_default g c =
    let out = held g.W.Write.contents g.B.Write.contents g.M.Write.contents in
    let outputs = c.loop-lines.outputs in
    let read = out (record outputs { printed = c.next_line.new.printed }) in
    let kept = flushed (g.W.Write.contents outputs.printed) (g.B.Write.contents outputs.book) (g.M.Write.contents outputs.messages) (g.W.Write.contents c.next_line.new.printed) c.next_line.ensures.keeps in
    λ k. ends
    (g.R.Read.remaining c.args.input.now.source)
    (g.R.Read.remaining c.loop-lines.input.source)
    (out c.args.outputs.now k)
    (out outputs k)
    (read k)
    (script_text k)
    (λ rest. played k (c.loop-lines.lines + 1) (parsed_lines rest))
    0
    c.loop-lines.lines
    c.in_ok-line.field-0
    (c.loop-lines.invariant k)
    (kept k)
    c.in_ok-line.ensures.line
    c.in_default.is
    refl

pub returns-in_err-write_bad-in-Bad : goal.returns-in_err-write_bad-in-Bad
returns-in_err-write_bad-in-Bad g c =
    let failed : c.from_residual-in_err-write_bad-in-Bad.result ≡ Err c.in_err-write_bad-in-Bad.field-0.0 = search rules in
    let number = c.loop-lines.lines + 1 in
    let out = held g.W.Write.contents g.B.Write.contents g.M.Write.contents in
    let outputs = c.loop-lines.outputs in
    let read = out (record outputs { printed = c.next_line.new.printed }) in
    let kept = flushed (g.W.Write.contents outputs.printed) (g.B.Write.contents outputs.book) (g.M.Write.contents outputs.messages) (g.W.Write.contents c.next_line.new.printed) c.next_line.ensures.keeps in
    λ k. unwritten k
    c.from_residual-in_err-write_bad-in-Bad.result
    c.in_err-write_bad-in-Bad.field-0.0
    (g.R.Read.remaining c.args.input.now.source)
    (g.R.Read.remaining c.loop-lines.input.source)
    (g.R.Read.remaining c.next_line.new.self.source)
    (out c.args.outputs.now k)
    (out outputs k)
    (read k)
    (out c.write_bad.new.self k)
    (script_text k)
    (λ rest. played k number (parsed_lines rest))
    (λ rest. played k (number + 1) (parsed_lines rest))
    0
    c.loop-lines.lines
    c.in_ok-line.field-0
    (line.Bad c.in-Bad.bad)
    (bad_parts number c.in-Bad.bad k)
    failed
    (c.loop-lines.invariant k)
    (kept k)
    c.in_ok-line.ensures.line
    c.in_ok-line.ensures.rest
    (c.in-Some.is ∙ ap Some c.in-Bad.is)
    (c.in_err-write_bad-in-Bad.ensures k)
    (λ rest lines. ap (played k number) lines)

pub returns-in-Store : goal.returns-in-Store
returns-in-Store g c =
    let number = c.loop-lines.lines + 1 in
    let out = held g.W.Write.contents g.B.Write.contents g.M.Write.contents in
    let outputs = c.loop-lines.outputs in
    let read = out (record outputs { printed = c.next_line.new.printed }) in
    let kept = flushed (g.W.Write.contents outputs.printed) (g.B.Write.contents outputs.book) (g.M.Write.contents outputs.messages) (g.W.Write.contents c.next_line.new.printed) c.next_line.ensures.keeps in
    λ k. closes k
    c.play_over.result
    (g.R.Read.remaining c.args.input.now.source)
    (g.R.Read.remaining c.loop-lines.input.source)
    (g.R.Read.remaining c.next_line.new.self.source)
    (out c.args.outputs.now k)
    (out outputs k)
    (read k)
    (out c.play_over.new.outputs k)
    (script_text k)
    (λ rest. played k number (parsed_lines rest))
    (λ rest. played k number (line.Store c.in-Store.kind ∷ parsed_lines rest))
    0
    c.loop-lines.lines
    c.in_ok-line.field-0
    (line.Store c.in-Store.kind)
    (c.loop-lines.invariant k)
    (kept k)
    c.in_ok-line.ensures.line
    c.in_ok-line.ensures.rest
    (c.in-Some.is ∙ ap Some c.in-Store.is)
    (c.play_over.ensures k)
    (λ rest lines. ap (played k number) lines)

pub returns-in-Call : goal.returns-in-Call
returns-in-Call g c =
    let number = c.loop-lines.lines + 1 in
    let out = held g.W.Write.contents g.B.Write.contents g.M.Write.contents in
    let outputs = c.loop-lines.outputs in
    let read = out (record outputs { printed = c.next_line.new.printed }) in
    let kept = flushed (g.W.Write.contents outputs.printed) (g.B.Write.contents outputs.book) (g.M.Write.contents outputs.messages) (g.W.Write.contents c.next_line.new.printed) c.next_line.ensures.keeps in
    λ k. closes k
    c.play_from.result
    (g.R.Read.remaining c.args.input.now.source)
    (g.R.Read.remaining c.loop-lines.input.source)
    (g.R.Read.remaining c.next_line.new.self.source)
    (out c.args.outputs.now k)
    (out outputs k)
    (read k)
    (out c.play_from.new.outputs k)
    (script_text k)
    (λ rest. played k number (parsed_lines rest))
    (λ rest. played k number (line.Call c.in-Call.request ∷ parsed_lines rest))
    0
    c.loop-lines.lines
    c.in_ok-line.field-0
    (line.Call c.in-Call.request)
    (c.loop-lines.invariant k)
    (kept k)
    c.in_ok-line.ensures.line
    c.in_ok-line.ensures.rest
    (c.in-Some.is ∙ ap Some c.in-Call.is)
    (c.play_from.ensures k)
    (λ rest lines. ap (played k number) lines)

pub loop-lines-preserved : goal.loop-lines-preserved
loop-lines-preserved g c =
    let number = c.loop-lines.lines + 1 in
    let out = held g.W.Write.contents g.B.Write.contents g.M.Write.contents in
    let outputs = c.loop-lines.outputs in
    let read = out (record outputs { printed = c.next_line.new.printed }) in
    let kept = flushed (g.W.Write.contents outputs.printed) (g.B.Write.contents outputs.book) (g.M.Write.contents outputs.messages) (g.W.Write.contents c.next_line.new.printed) c.next_line.ensures.keeps in
    λ k. elim c.match-line.branch [
      | in-Blank w ↦ steps
          (g.R.Read.remaining c.args.input.now.source)
          (g.R.Read.remaining c.loop-lines.input.source)
          (g.R.Read.remaining c.next_line.new.self.source)
          (out c.args.outputs.now k)
          (out outputs k)
          (read k)
          (out c.match-line.outputs k)
          (script_text k)
          (λ rest. played k number (parsed_lines rest))
          (λ rest. played k (number + 1) (parsed_lines rest))
          0
          c.loop-lines.lines
          c.in_ok-line.field-0
          line.Blank
          []
          (c.loop-lines.invariant k)
          (kept k)
          c.in_ok-line.ensures.line
          c.in_ok-line.ensures.rest
          (c.in-Some.is ∙ ap Some w.in-Blank.is)
          (rw w.outputs-is (Appends-nil (read k)))
          (λ rest lines. ap (played k number) lines)
      | in-Bad+in_ok-write_bad-in-Bad w ↦ steps
          (g.R.Read.remaining c.args.input.now.source)
          (g.R.Read.remaining c.loop-lines.input.source)
          (g.R.Read.remaining c.next_line.new.self.source)
          (out c.args.outputs.now k)
          (out outputs k)
          (read k)
          (out c.match-line.outputs k)
          (script_text k)
          (λ rest. played k number (parsed_lines rest))
          (λ rest. played k (number + 1) (parsed_lines rest))
          0
          c.loop-lines.lines
          c.in_ok-line.field-0
          (line.Bad w.in-Bad.bad)
          (bad_parts number w.in-Bad.bad k)
          (c.loop-lines.invariant k)
          (kept k)
          c.in_ok-line.ensures.line
          c.in_ok-line.ensures.rest
          (c.in-Some.is ∙ ap Some w.in-Bad.is)
          (rw w.outputs-is (w.in_ok-write_bad-in-Bad.ensures k))
          (λ rest lines. ap (played k number) lines)
    ]

pub returns-in_err-line : goal.returns-in_err-line
returns-in_err-line g c =
    let failed : c.from_residual.result ≡ Err c.in_err-line.field-0.0 = search rules in
    let out = held g.W.Write.contents g.B.Write.contents g.M.Write.contents in
    let outputs = c.loop-lines.outputs in
    let read = out (record outputs { printed = c.next_line.new.printed }) in
    let kept = flushed (g.W.Write.contents outputs.printed) (g.B.Write.contents outputs.book) (g.M.Write.contents outputs.messages) (g.W.Write.contents c.next_line.new.printed) c.next_line.ensures.keeps in
    λ k. unread k
    c.from_residual.result
    c.in_err-line.field-0.0
    (g.R.Read.remaining c.args.input.now.source)
    (g.R.Read.remaining c.loop-lines.input.source)
    (out c.args.outputs.now k)
    (out outputs k)
    (read k)
    (script_text k)
    (λ rest. played k (c.loop-lines.lines + 1) (parsed_lines rest))
    0
    c.loop-lines.lines
    failed
    c.in_err-line.ensures.cause
    (c.loop-lines.invariant k)
    (kept k)

pub returns : goal.returns
returns g c =
    let out = held g.W.Write.contents g.B.Write.contents g.M.Write.contents in
    λ k. uncounted k
    (g.R.Read.remaining c.args.input.now.source)
    (g.R.Read.remaining c.loop-lines.input.source)
    (out c.args.outputs.now k)
    (out c.loop-lines.outputs k)
    (script_text k)
    (λ rest. played k (c.loop-lines.lines + 1) (parsed_lines rest))
    0
    c.loop-lines.lines
    (omega arith)
    (c.loop-lines.invariant k)

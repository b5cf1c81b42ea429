-- Each line prints what the rules draw for it, the last leaves nothing, and an error leaves what it says.
use Rattle.std.proofs.Common.{◌≡◌, ◌+◌, ◌++◌, Err, refl, sym, ap, ◌∙◌, rules, arith}
use Rattle.std.specs.Io.BufRead.{drop_through}
use Rattle.engine.specs.Engines.{engine_of}
use Rattle.script.specs.Played.{line_text, parsed_lines, played_on}
use Rattle.script.specs.Sinks.{held}
use Rattle.script.proofs.PlayProofs.{flushed, ends, steps, uncounted, unread, unwritten}
use Rattle.script.proofs.playing.play_on.Goals as goal

pub returns-in_default : goal.returns-in_default
returns-in_default g c =
    let out = held g.W.Write.contents g.B.Write.contents g.M.Write.contents in
    let outputs = c.loop-before.outputs in
    let read = out (record outputs { printed = c.next_line.new.printed }) in
    let kept = flushed (g.W.Write.contents outputs.printed) (g.B.Write.contents outputs.book) (g.M.Write.contents outputs.messages) (g.W.Write.contents c.next_line.new.printed) c.next_line.ensures.keeps in
    λ k. ends
    (g.R.Read.remaining c.args.input.now.source)
    (g.R.Read.remaining c.loop-before.input.source)
    (out c.args.outputs.now k)
    (out outputs k)
    (read k)
    (λ first. played_on k g.S.Store.DEPTH (engine_of g.S.Reads.meaning c.args.engine.now) (c.args.lines + 1) (parsed_lines first))
    (λ rest. played_on k g.S.Store.DEPTH (engine_of g.S.Reads.meaning c.loop-before.engine) (c.loop-before.before + 1) (parsed_lines rest))
    c.args.lines
    c.loop-before.before
    c.in_ok-line.field-0
    (c.loop-before.invariant k)
    (kept k)
    c.in_ok-line.ensures.line
    c.in_default.is
    refl

pub returns-in_err-line : goal.returns-in_err-line
returns-in_err-line g c =
    let failed : c.from_residual.result ≡ Err c.in_err-line.field-0.0 = search rules in
    let out = held g.W.Write.contents g.B.Write.contents g.M.Write.contents in
    let outputs = c.loop-before.outputs in
    let read = out (record outputs { printed = c.next_line.new.printed }) in
    let kept = flushed (g.W.Write.contents outputs.printed) (g.B.Write.contents outputs.book) (g.M.Write.contents outputs.messages) (g.W.Write.contents c.next_line.new.printed) c.next_line.ensures.keeps in
    λ k. unread k
    c.from_residual.result
    c.in_err-line.field-0.0
    (g.R.Read.remaining c.args.input.now.source)
    (g.R.Read.remaining c.loop-before.input.source)
    (out c.args.outputs.now k)
    (out outputs k)
    (read k)
    (λ first. played_on k g.S.Store.DEPTH (engine_of g.S.Reads.meaning c.args.engine.now) (c.args.lines + 1) (parsed_lines first))
    (λ rest. played_on k g.S.Store.DEPTH (engine_of g.S.Reads.meaning c.loop-before.engine) (c.loop-before.before + 1) (parsed_lines rest))
    c.args.lines
    c.loop-before.before
    failed
    c.in_err-line.ensures.cause
    (c.loop-before.invariant k)
    (kept k)

pub returns-in_err-play_line : goal.returns-in_err-play_line
returns-in_err-play_line g c =
    let failed : c.from_residual-in_err-play_line.result ≡ Err c.in_err-play_line.field-0.0 = search rules in
    let engine = engine_of g.S.Reads.meaning c.loop-before.engine in
    let before = c.loop-before.before in
    let out = held g.W.Write.contents g.B.Write.contents g.M.Write.contents in
    let outputs = c.loop-before.outputs in
    let read = out (record outputs { printed = c.next_line.new.printed }) in
    let kept = flushed (g.W.Write.contents outputs.printed) (g.B.Write.contents outputs.book) (g.M.Write.contents outputs.messages) (g.W.Write.contents c.next_line.new.printed) c.next_line.ensures.keeps in
    λ k. unwritten k
    c.from_residual-in_err-play_line.result
    c.in_err-play_line.field-0.0
    (g.R.Read.remaining c.args.input.now.source)
    (g.R.Read.remaining c.loop-before.input.source)
    (g.R.Read.remaining c.next_line.new.self.source)
    (out c.args.outputs.now k)
    (out outputs k)
    (read k)
    (out c.play_line.new.outputs k)
    (λ first. played_on k g.S.Store.DEPTH (engine_of g.S.Reads.meaning c.args.engine.now) (c.args.lines + 1) (parsed_lines first))
    (λ rest. played_on k g.S.Store.DEPTH engine (before + 1) (parsed_lines rest))
    (λ rest. played_on k g.S.Store.DEPTH (engine_of g.S.Reads.meaning c.play_line.new.engine) (before + 1 + 1) (parsed_lines rest))
    c.args.lines
    before
    c.in_ok-line.field-0
    c.in-Some.line
    (line_text k g.S.Store.DEPTH engine (before + 1) c.in-Some.line)
    failed
    (c.loop-before.invariant k)
    (kept k)
    c.in_ok-line.ensures.line
    c.in_ok-line.ensures.rest
    c.in-Some.is
    (c.in_err-play_line.ensures.writes k)
    (λ rest lines.
    ap (played_on k g.S.Store.DEPTH engine (before + 1)) lines
    ∙ ap
    (λ after. line_text k g.S.Store.DEPTH engine (before + 1) c.in-Some.line ++ played_on k g.S.Store.DEPTH after (before + 1 + 1) (parsed_lines (drop_through 10 rest)))
    (sym c.play_line.ensures.after))

pub loop-before-preserved : goal.loop-before-preserved
loop-before-preserved g c =
    let engine = engine_of g.S.Reads.meaning c.loop-before.engine in
    let before = c.loop-before.before in
    let out = held g.W.Write.contents g.B.Write.contents g.M.Write.contents in
    let outputs = c.loop-before.outputs in
    let read = out (record outputs { printed = c.next_line.new.printed }) in
    let kept = flushed (g.W.Write.contents outputs.printed) (g.B.Write.contents outputs.book) (g.M.Write.contents outputs.messages) (g.W.Write.contents c.next_line.new.printed) c.next_line.ensures.keeps in
    λ k. steps
    (g.R.Read.remaining c.args.input.now.source)
    (g.R.Read.remaining c.loop-before.input.source)
    (g.R.Read.remaining c.next_line.new.self.source)
    (out c.args.outputs.now k)
    (out outputs k)
    (read k)
    (out c.play_line.new.outputs k)
    (λ first. played_on k g.S.Store.DEPTH (engine_of g.S.Reads.meaning c.args.engine.now) (c.args.lines + 1) (parsed_lines first))
    (λ rest. played_on k g.S.Store.DEPTH engine (before + 1) (parsed_lines rest))
    (λ rest. played_on k g.S.Store.DEPTH (engine_of g.S.Reads.meaning c.play_line.new.engine) (before + 1 + 1) (parsed_lines rest))
    c.args.lines
    before
    c.in_ok-line.field-0
    c.in-Some.line
    (line_text k g.S.Store.DEPTH engine (before + 1) c.in-Some.line)
    (c.loop-before.invariant k)
    (kept k)
    c.in_ok-line.ensures.line
    c.in_ok-line.ensures.rest
    c.in-Some.is
    (c.in_ok-play_line.ensures.writes k)
    (λ rest lines.
    ap (played_on k g.S.Store.DEPTH engine (before + 1)) lines
    ∙ ap
    (λ after. line_text k g.S.Store.DEPTH engine (before + 1) c.in-Some.line ++ played_on k g.S.Store.DEPTH after (before + 1 + 1) (parsed_lines (drop_through 10 rest)))
    (sym c.play_line.ensures.after))

pub returns : goal.returns
returns g c =
    let out = held g.W.Write.contents g.B.Write.contents g.M.Write.contents in
    λ k. uncounted k
    (g.R.Read.remaining c.args.input.now.source)
    (g.R.Read.remaining c.loop-before.input.source)
    (out c.args.outputs.now k)
    (out c.loop-before.outputs k)
    (λ first. played_on k g.S.Store.DEPTH (engine_of g.S.Reads.meaning c.args.engine.now) (c.args.lines + 1) (parsed_lines first))
    (λ rest. played_on k g.S.Store.DEPTH (engine_of g.S.Reads.meaning c.loop-before.engine) (c.loop-before.before + 1) (parsed_lines rest))
    c.args.lines
    c.loop-before.before
    (omega arith)
    (c.loop-before.invariant k)

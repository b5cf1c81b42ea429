-- The first call is made and written, and then the lines behind it are played on its engine.
use Rattle.std.proofs.Common.{◌≡◌, ◌+◌, ◌∷◌, Err, refl, rules}
use Rattle.engine.specs.Engines.{engine_of}
use Rattle.engine.specs.Performing.{performed}
use Rattle.records.specs.Layouts.{record_depth}
use Rattle.record_store.specs.Tables.{table_meaning}
use Rattle.script.specs.Played.{played, played_on, parsed_lines, result_parts, shown_result}
use Rattle.script.specs.Shown.{request_text}
use Rattle.script.specs.Sinks.{held}
use Rattle.script.specs.declared.line.Line.TheVariants as line
use Rattle.script.proofs.PlayProofs.{line_then, line_unwritten}
use Rattle.script.proofs.playing.play_from.Goals as goal

pub returns : goal.returns
returns g c =
    let out = held g.W.Write.contents g.B.Write.contents g.M.Write.contents in
    λ k. line_then k
    c.play_on.result
    c.args.number
    (g.R.Read.remaining c.args.input.now.source)
    (out c.args.outputs.now k)
    (out c.perform.new.outputs k)
    (out c.play_on.new.outputs k)
    (result_parts (request_text c.args.first) (shown_result (performed record_depth c.args.first.call (engine_of (λ t. table_meaning t.memory.now t.kept t.last) c.new-engine.result)).0) k)
    (λ rest. played_on k record_depth (engine_of (λ t. table_meaning t.memory.now t.kept t.last) c.perform.new.engine) (c.args.number + 1) (parsed_lines rest))
    (λ rest. played k c.args.number (line.Call c.args.first ∷ parsed_lines rest))
    (c.in_ok-perform.ensures.writes k)
    (c.play_on.ensures k)
    (λ rest. rw (c.perform.ensures.after, c.new-engine.ensures.value, c.new.ensures.meaning) refl)

pub returns-in_err-perform : goal.returns-in_err-perform
returns-in_err-perform g c =
    let failed : c.from_residual.result ≡ Err c.in_err-perform.field-0.0 = search rules in
    let out = held g.W.Write.contents g.B.Write.contents g.M.Write.contents in
    λ k. line_unwritten k
    c.from_residual.result
    c.in_err-perform.field-0.0
    c.args.number
    (g.R.Read.remaining c.args.input.now.source)
    (out c.args.outputs.now k)
    (out c.perform.new.outputs k)
    (result_parts (request_text c.args.first) (shown_result (performed record_depth c.args.first.call (engine_of (λ t. table_meaning t.memory.now t.kept t.last) c.new-engine.result)).0) k)
    (λ rest. played_on k record_depth (performed record_depth c.args.first.call (engine_of (λ t. table_meaning t.memory.now t.kept t.last) c.new-engine.result)).1 (c.args.number + 1) (parsed_lines rest))
    (λ rest. played k c.args.number (line.Call c.args.first ∷ parsed_lines rest))
    failed
    (c.in_err-perform.ensures.writes k)
    (λ rest. rw (c.new-engine.ensures.value, c.new.ensures.meaning) refl)

-- What the table answers to the memory is written, and then the lines behind it are played on a new engine over that table.
use Rattle.std.proofs.Common.{◌≡◌, ◌+◌, ◌∷◌, min, Err, refl, rules}
use Rattle.engine.specs.Engines.{engine_of}
use Rattle.snapshot.specs.Limits.{most_records}
use Rattle.records.specs.Layouts.{record_depth}
use Rattle.record_store.specs.Tables.{table_meaning}
use Rattle.script.specs.Played.{over_table, played, played_on, parsed_lines, result_parts}
use Rattle.script.specs.Shown.{lent_outcome, store_text}
use Rattle.script.specs.Sinks.{held}
use Rattle.script.specs.declared.line.Line.TheVariants as line
use Rattle.script.specs.declared.line.StoreKind.TheVariants.{Table}
use Rattle.script.proofs.PlayProofs.{line_then, line_unwritten}
use Rattle.script.proofs.playing.play_over_table.Goals as goal

pub returns : goal.returns
returns g c =
    let out = held g.W.Write.contents g.B.Write.contents g.M.Write.contents in
    λ k. line_then k
    c.play_on.result
    c.args.number
    (g.R.Read.remaining c.args.input.now.source)
    (out c.args.outputs.now k)
    (out c.write_outcome.new.self k)
    (out c.play_on.new.outputs k)
    (result_parts (store_text (Table c.args.records)) (lent_outcome c.checked.result) k)
    (λ rest. played_on k record_depth (engine_of (λ t. table_meaning t.memory.now t.kept t.last) c.new-2.result) (c.args.number + 1) (parsed_lines rest))
    (λ rest. played k c.args.number (line.Store (Table c.args.records) ∷ parsed_lines rest))
    (c.in_ok-write_outcome.ensures k)
    (c.play_on.ensures k)
    (λ rest. rw (c.new-2.ensures.value, c.new.ensures.meaning, c.checked.ensures, c.check.ensures, c.requires) refl)

pub returns-in_err-write_outcome : goal.returns-in_err-write_outcome
returns-in_err-write_outcome g c =
    let failed : c.from_residual.result ≡ Err c.in_err-write_outcome.field-0.0 = search rules in
    let out = held g.W.Write.contents g.B.Write.contents g.M.Write.contents in
    λ k. line_unwritten k
    c.from_residual.result
    c.in_err-write_outcome.field-0.0
    c.args.number
    (g.R.Read.remaining c.args.input.now.source)
    (out c.args.outputs.now k)
    (out c.write_outcome.new.self k)
    (result_parts (store_text (Table c.args.records)) (lent_outcome c.checked.result) k)
    (λ rest. played_on k record_depth (over_table (min c.args.records most_records)) (c.args.number + 1) (parsed_lines rest))
    (λ rest. played k c.args.number (line.Store (Table c.args.records) ∷ parsed_lines rest))
    failed
    (c.in_err-write_outcome.ensures k)
    (λ rest. rw (c.checked.ensures, c.check.ensures, c.requires) refl)

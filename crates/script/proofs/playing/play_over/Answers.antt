-- The store's line is written, and then the lines behind it are played on a new engine over that store.
use Rattle.std.proofs.Common.{◌≡◌, ◌+◌, ◌∷◌, Ok, Err, refl, rules}
use Rattle.engine.specs.Engines.{engine_of}
use Rattle.engine.specs.declared.answer.Answer.TheVariants as answer
use Rattle.engine_model.specs.Engines.{new_engine}
use Rattle.snapshot.specs.Limits.{key_count}
use Rattle.store.specs.Meaning.{new_store}
use Rattle.newest_store.specs.Newest.{newest_meaning}
use Rattle.script.specs.Played.{played, played_on, parsed_lines, result_parts}
use Rattle.script.specs.Shown.{store_text}
use Rattle.script.specs.Sinks.{held}
use Rattle.script.specs.declared.line.Line.TheVariants as line
use Rattle.script.proofs.PlayProofs.{line_then, line_unwritten}
use Rattle.script.proofs.playing.play_over.Goals as goal

pub returns-in_ok-write_outcome-in-Newest : goal.returns-in_ok-write_outcome-in-Newest
returns-in_ok-write_outcome-in-Newest g c =
    let out = held g.W.Write.contents g.B.Write.contents g.M.Write.contents in
    λ k. line_then k
    c.play_on.result
    c.args.number
    (g.R.Read.remaining c.args.input.now.source)
    (out c.args.outputs.now k)
    (out c.write_outcome.new.self k)
    (out c.play_on.new.outputs k)
    (result_parts (store_text c.args.kind) (Ok answer.Done) k)
    (λ rest. played_on k 1 (engine_of newest_meaning c.new-in-Newest.result) (c.args.number + 1) (parsed_lines rest))
    (λ rest. played k c.args.number (line.Store c.args.kind ∷ parsed_lines rest))
    (c.in_ok-write_outcome-in-Newest.ensures k)
    (c.play_on.ensures k)
    (λ rest. rw (c.in-Newest.is, c.new-in-Newest.ensures.value, c.new.ensures) refl)

pub returns-in_err-write_outcome-in-Newest : goal.returns-in_err-write_outcome-in-Newest
returns-in_err-write_outcome-in-Newest g c =
    let failed : c.from_residual.result ≡ Err c.in_err-write_outcome-in-Newest.field-0.0 = search rules in
    let out = held g.W.Write.contents g.B.Write.contents g.M.Write.contents in
    λ k. line_unwritten k
    c.from_residual.result
    c.in_err-write_outcome-in-Newest.field-0.0
    c.args.number
    (g.R.Read.remaining c.args.input.now.source)
    (out c.args.outputs.now k)
    (out c.write_outcome.new.self k)
    (result_parts (store_text c.args.kind) (Ok answer.Done) k)
    (λ rest. played_on k 1 (new_engine (new_store key_count)) (c.args.number + 1) (parsed_lines rest))
    (λ rest. played k c.args.number (line.Store c.args.kind ∷ parsed_lines rest))
    failed
    (c.in_err-write_outcome-in-Newest.ensures k)
    (λ rest. rw c.in-Newest.is refl)

pub returns-in-Table : goal.returns-in-Table
returns-in-Table g c = rw c.in-Table.is c.play_over_table.ensures

-- Fit memory holds what the table means when it is let go.
use Rattle.std.proofs.Common.{List, MatchResult, length, ap, subst, rules}
use Rattle.std.proofs.lemmas.Bool.{cond-true}
use Rattle.snapshot.specs.Limits.{key_count}
use Rattle.store.specs.Calls.{after_store_calls}
use Rattle.store.specs.Meaning.{new_store}
use Rattle.records.specs.Layouts.{record_depth}
use Rattle.records.specs.declared.record.Record.{Record}
use Rattle.record_store.proofs.Laying.{laid_after}
use Rattle.records.specs.Slices.{is_table_size}
use Rattle.record_store.specs.Tables.{HoldsOnly}
use Rattle.table_store.proofs.runs.run_in.Goals as goal

pub returns-clause-laid : goal.returns-clause-laid
returns-clause-laid c fit =
    let size = length c.args.memory.now in
    let after = after_store_calls record_depth c.args.calls.now in
    let mem = c.run.new.store.memory.now in
    let held = laid_after c.run.result _ (is_table_size size) c.args.memory.now mem _ _ (ap (λ l. l.left_alone) c.new-table.ensures.loan) fit c.run.ensures.memory in
    let means = subst (λ m. MatchResult c.run.result (λ _. HoldsOnly (after m) mem) (λ _. HoldsOnly m mem)) c.new-table.ensures.meaning held in
    let fits = subst (λ n. MatchResult c.run.result (λ _. HoldsOnly (after (new_store n)) mem) (λ _. HoldsOnly (new_store n) mem)) (cond-true (is_table_size size) size key_count fit) means in
    let Laid : List Record → Type 0 = λ xs. MatchResult c.run.result (λ _. HoldsOnly (after (new_store size)) xs) (λ _. HoldsOnly (new_store size) xs) in
    subst Laid (search rules) fits

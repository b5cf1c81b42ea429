-- The engine's answers are those over a new store; what the table means when it is let go is what its memory holds.
use Rattle.std.proofs.Common.{◌≡◌, ◌≤◌, List, ◌++◌, MatchResult, length, ap, subst, ◌∙◌, arith, rules}
use Rattle.std.proofs.lemmas.Bool.{cond-true}
use Rattle.std.proofs.lemmas.Result.{MatchResult-weaker}
use Rattle.snapshot.specs.Limits.{key_count}
use Rattle.store.specs.Meaning.{Meaning, new_store}
use Rattle.records.proofs.Capacities.{room_le}
use Rattle.records.proofs.Holding.{holds_versions}
use Rattle.records.specs.Layouts.{record_depth}
use Rattle.records.specs.declared.record.Record.{Record}
use Rattle.record_store.proofs.Laying.{laid_in_fit}
use Rattle.records.proofs.SliceLaws.{lies_in}
use Rattle.records.specs.Slices.{LiesIn, is_table_size}
use Rattle.record_store.specs.Tables.{HoldsOnly, table_meaning}
use Rattle.engine_model.specs.Engines.{new_engine}
use Rattle.engine.specs.Performing.{answers_to, engine_after_calls}
use Rattle.engine_tests.proofs.lent_memory.run_in.Goals as goal

pub returns-clause-answers : goal.returns-clause-answers
returns-clause-answers c =
    let before = c.args.answers.now.items in
    let after = c.run_over.new.answers.items in
    subst
    (λ m. MatchResult c.run_over.result (λ _. after ≡ before ++ answers_to record_depth c.args.calls.now (new_engine m)) (λ _. after ≡ before))
    c.new-table.ensures.meaning c.run_over.ensures.answers

pub returns-clause-laid : goal.returns-clause-laid
returns-clause-laid c fit =
    let size = length c.args.memory.now in
    let after : Meaning → Meaning = λ m. (engine_after_calls record_depth c.args.calls.now (new_engine m)).store in
    let s = c.run_over.new.store in
    let mem = s.memory.now in
    let long : length mem ≡ size = ap (λ l. l.size) (c.run_over.ensures.loan ∙ c.new-table.ensures.loan) in
    let within : s.kept ≤ length mem = omega (arith, s.within, room_le (is_table_size (length mem)) (length mem)) in
    let held : HoldsOnly (table_meaning mem s.kept s.last) mem =
    laid_in_fit (is_table_size (length mem)) (table_meaning mem s.kept s.last) mem mem
    (holds_versions (λ xs. 0) (λ xs. xs) (λ xs. is_table_size (length xs)) (λ xs. xs) LiesIn mem s.kept s.last s.sound (λ is_fit. lies_in mem s.kept within (s.tidy is_fit)))
    (ap is_table_size long ∙ fit) in
    let new = c.new-table.ensures.meaning ∙ ap new_store (cond-true (is_table_size size) size key_count fit) in
    let Laid : List Record → Type 0 = λ xs. MatchResult c.run_over.result (λ _. HoldsOnly (after (new_store size)) xs) (λ _. HoldsOnly (new_store size) xs) in
    let laid : Laid mem =
    MatchResult-weaker c.run_over.result c.run_over.ensures.after
    (λ _ is. subst (λ m. HoldsOnly m mem) (is ∙ ap after new) held)
    (λ _ same. subst (λ m. HoldsOnly m mem) (ap (λ t. table_meaning t.memory.now t.kept t.last) same ∙ new) held) in
    subst Laid (search rules) laid

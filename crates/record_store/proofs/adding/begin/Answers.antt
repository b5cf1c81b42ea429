-- The list means a new store, in fit memory and in other memory.
use Rattle.std.proofs.Common.{◌≡◌, false, length, take, ap, ◌∙◌, rules}
use Rattle.std.proofs.lemmas.Bool.{both_ways}
use Rattle.store.specs.Meaning.{new_store}
use Rattle.records.specs.Layouts.{capacity_for}
use Rattle.record_store.proofs.Commits.{first_meaning}
use Rattle.record_store.proofs.adding.begin.Goals as goal

pub returns-then-not-is_fit-clause-meaning : goal.returns-then-not-is_fit-clause-meaning
returns-then-not-is_fit-clause-meaning g c =
    let records = g.M.RecordMemory.records c.args.memory.now in
    let unfit : g.M.RecordMemory.fit c.args.memory.now ≡ false = search rules in
    first_meaning (g.M.RecordMemory.fit c.args.memory.now) (length records) (take 0 records) (λ fit. absurd (both_ways _ unfit fit))

pub returns-clause-meaning : goal.returns-clause-meaning
returns-clause-meaning g c =
    let fit = g.M.RecordMemory.fit in
    let records = g.M.RecordMemory.records in
    let after = c.start-counts.new.memory in
    let started = c.start-counts.ensures in
    first_meaning (fit after) (length (records after)) (take c.from.result (records after)) (λ _. ap (λ n. take n (records after)) c.from.ensures ∙ started.added)
    ∙ ap (λ b. new_store (capacity_for b (length (records after)))) started.same.1
    ∙ ap (λ n. new_store (capacity_for (fit c.args.memory.now) n)) started.size

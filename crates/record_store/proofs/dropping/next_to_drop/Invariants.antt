-- Those before it have no number.
use Rattle.std.proofs.Common.{◌≡◌, ℕ, ◌≤◌, ◌<◌, slice_index_or}
use Rattle.records.specs.PerKeys.{number_for}
use Rattle.records.specs.Records.{no_record}
use Rattle.record_store.proofs.dropping.next_to_drop.Given as goal

abbrev pub invariant-loop-place : goal.invariant-loop-place
invariant-loop-place g l =
    (i : ℕ) → l.start ≤ i → i < l.place → number_for l.numbers (slice_index_or (g.M.RecordMemory.records l.memory) i no_record).key ≡ 0

-- Those from the upper bound on are later than the time, and those below the lower bound are not.
use Rattle.std.proofs.Common.{ℕ, ◌≤◌, ◌<◌, ◌-◌, slice_index_or}
use Rattle.records.specs.Records.{no_record}
use Rattle.record_store.proofs.looking.count_up_to.Given as goal

abbrev pub invariant-loop-step : goal.invariant-loop-step
invariant-loop-step g l = record {
  within : l.high ≤ l.kept;
  some : 0 < l.step;
  after : (i : ℕ) → l.high ≤ i → i < l.kept → l.time < (slice_index_or (g.M.RecordMemory.records l.memory) i no_record).timestamp;
}

abbrev pub decreases-loop-step : goal.decreases-loop-step
decreases-loop-step g l = l.high

abbrev pub invariant-loop-low : goal.invariant-loop-low
invariant-loop-low g l = record {
  order : l.low ≤ l.high;
  within : l.high ≤ l.kept;
  before : (i : ℕ) → i < l.low → (slice_index_or (g.M.RecordMemory.records l.memory) i no_record).timestamp ≤ l.time;
  after : (i : ℕ) → l.high ≤ i → i < l.kept → l.time < (slice_index_or (g.M.RecordMemory.records l.memory) i no_record).timestamp;
}

abbrev pub decreases-loop-low : goal.decreases-loop-low
decreases-loop-low g l = l.high - l.low

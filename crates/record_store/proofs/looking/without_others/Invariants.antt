-- None of the records that are left out is of the key.
use Rattle.std.proofs.Common.{◌≡◌, ◌≤◌, filter, take}
use Rattle.records.specs.Records.{has_key}
use Rattle.record_store.proofs.looking.without_others.Given as goal

abbrev pub invariant-loop-left : goal.invariant-loop-left
invariant-loop-left g l =
    record {
      within : l.left ≤ l.end;
      same : filter (has_key l.key) (take l.left (g.M.RecordMemory.records l.memory)) ≡ filter (has_key l.key) (take l.end (g.M.RecordMemory.records l.memory));
    }

abbrev pub decreases-loop-left : goal.decreases-loop-left
decreases-loop-left g l = l.left

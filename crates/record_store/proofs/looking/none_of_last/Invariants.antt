-- None of the records so far is of the key.
use Rattle.std.proofs.Common.{◌≡◌, ◌-◌, filter, take}
use Rattle.records.specs.Records.{has_key}
use Rattle.record_store.proofs.looking.none_of_last.Given as goal

abbrev pub invariant-loop-back : goal.invariant-loop-back
invariant-loop-back g l =
    filter (has_key l.key) (take (l.end - l.back) (g.M.RecordMemory.records l.memory)) ≡ filter (has_key l.key) (take l.end (g.M.RecordMemory.records l.memory))

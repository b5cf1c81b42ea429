-- None so far is of the key.
use Rattle.std.proofs.Common.{◌≡◌, filter, take}
use Rattle.records.specs.Records.{has_key}
use Rattle.record_store.proofs.looking.last_of_key.Given as goal

abbrev pub invariant-loop-place : goal.invariant-loop-place
invariant-loop-place g l =
    filter (has_key l.key) (take l.place (g.M.RecordMemory.records l.memory)) ≡ filter (has_key l.key) (take l.end (g.M.RecordMemory.records l.memory))

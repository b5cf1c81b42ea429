-- None so far is of the key.
use Rattle.std.proofs.Common.{◌≡◌, take, drop}
use Rattle.records.specs.Records.{of_key}
use Rattle.record_store.proofs.looking.promise_after.Given as goal

abbrev pub invariant-loop-place : goal.invariant-loop-place
invariant-loop-place g l =
    of_key l.key (drop l.place (take l.kept (g.M.RecordMemory.records l.memory))) ≡ of_key l.key (drop l.start (take l.kept (g.M.RecordMemory.records l.memory)))

-- The numbers are those of the records so far.
use Rattle.std.proofs.Common.{take}
use Rattle.records.specs.Counts.{CountsOf}
use Rattle.record_store.proofs.dropping.count_versions.Given as goal

abbrev pub invariant-loop-place : goal.invariant-loop-place
invariant-loop-place g l = CountsOf l.counts (take l.place (g.M.RecordMemory.records l.memory))

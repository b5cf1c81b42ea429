-- What stays of the records so far stands at the front, and those that are left to look at are as they were.
use Rattle.std.proofs.Common.{◌≡◌, ◌-◌, true}
use Rattle.records.specs.PerKeys.{number_for, total_of}
use Rattle.records.proofs.Running.{Ran}
use Rattle.record_store.proofs.dropping.drop_runs.Given as goal

abbrev pub invariant-loop-from : goal.invariant-loop-from
invariant-loop-from g l =
    record {
      ran : Ran (number_for l.initial.numbers) (g.M.RecordMemory.records l.initial.memory) l.kept (number_for l.numbers) (g.M.RecordMemory.records l.memory) l.left l.from;
      total : l.total ≡ total_of (number_for l.numbers);
      tidy : g.M.RecordMemory.tidy l.initial.memory l.kept ≡ true → g.M.RecordMemory.tidy l.memory l.kept ≡ true;
      same : (g.M.RecordMemory.name l.memory ≡ g.M.RecordMemory.name l.initial.memory) × (g.M.RecordMemory.fit l.memory ≡ g.M.RecordMemory.fit l.initial.memory);
    }

abbrev pub decreases-loop-from : goal.decreases-loop-from
decreases-loop-from g l = l.kept - l.from

-- The records of the writes so far stand behind the others, and are counted.
use Rattle.std.proofs.Common.{◌≡◌, ◌+◌, ◌++◌, true, length, map, take}
use Rattle.records.specs.Records.{written}
use Rattle.records.specs.Counts.{CountsOf}
use Rattle.record_store.proofs.adding.append.Given as goal

abbrev pub invariant-loop-write : goal.invariant-loop-write
invariant-loop-write g l =
    let records = g.M.RecordMemory.records in
    let tidy = g.M.RecordMemory.tidy in
    (l.end ≡ l.kept + l.write-index)
    × (take l.end (records l.memory) ≡ take l.kept (records l.initial.memory) ++ map (written l.update.timestamp) (take l.write-index l.update.writes.now))
    × CountsOf l.counts (take l.end (records l.memory))
    × (length (records l.memory) ≡ length (records l.initial.memory))
    × (tidy l.initial.memory l.kept ≡ true → tidy l.memory l.end ≡ true)
    × (g.M.RecordMemory.name l.memory ≡ g.M.RecordMemory.name l.initial.memory)
    × (g.M.RecordMemory.fit l.memory ≡ g.M.RecordMemory.fit l.initial.memory)

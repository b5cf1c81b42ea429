-- The first records of the keys so far, and their counts.
use Rattle.std.proofs.Common.{◌≡◌, true, length, take}
use Rattle.records.specs.Records.{first_records}
use Rattle.records.specs.Counts.{CountsOf}
use Rattle.record_store.proofs.adding.start.Given as goal

abbrev pub invariant-loop-key : goal.invariant-loop-key
invariant-loop-key g l =
    let records = g.M.RecordMemory.records in
    (l.kept ≡ l.key)
    × (take l.kept (records l.memory) ≡ first_records l.kept)
    × CountsOf l.counts (take l.kept (records l.memory))
    × (length (records l.memory) ≡ length (records l.initial.memory))
    × (g.M.RecordMemory.tidy l.memory l.kept ≡ true)
    × (g.M.RecordMemory.name l.memory ≡ g.M.RecordMemory.name l.initial.memory)
    × (g.M.RecordMemory.fit l.memory ≡ g.M.RecordMemory.fit l.initial.memory)

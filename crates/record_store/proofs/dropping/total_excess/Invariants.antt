-- The total is that of the writes so far, and each adds no more than there are records.
use Rattle.std.proofs.Common.{◌≡◌, ◌≤◌, ◌*◌, take}
use Rattle.snapshot.specs.Limits.{most_records}
use Rattle.records.specs.PerKeys.{total_of}
use Rattle.record_store.proofs.Excesses.{dropped}
use Rattle.record_store.proofs.dropping.total_excess.Given as goal

abbrev pub invariant-loop-write : goal.invariant-loop-write
invariant-loop-write l =
    record {
      total : l.total ≡ total_of (dropped l.depth (take l.write-index l.update.writes.now) l.counts);
      few : l.total ≤ l.write-index * most_records;
    }

-- What is left of the writes, put where the versions stand now, gives what all of them give.
use Rattle.std.proofs.Common.{◌≡◌, drop}
use Rattle.newest_store.proofs.Putting.{put_all}
use Rattle.newest_store.proofs.newest.put_all.Given as goal

abbrev pub invariant-loop-write : goal.invariant-loop-write
invariant-loop-write l =
    put_all l.update.timestamp (drop l.write-index l.update.writes.now) l.versions ≡ put_all l.update.timestamp l.update.writes.now l.initial.versions

-- The versions that were put are those of a commit of depth 1, and there is room for them.
use Rattle.newest_store.proofs.Keeping.{room_after, with_writes_lem}
use Rattle.store.proofs.Writes.{fit_rises}
use Rattle.newest_store.proofs.newest.Newest.write.Goals as goal

pub returns : goal.returns
returns c =
    let t = c.args.update.timestamp in
    let ws = c.args.update.writes.now in
    let s = c.args.self.now in
    record {
      meaning = with_writes_lem t ws s _ (fit_rises ws c.args.update.fit) c.put_all.ensures;
      room = room_after t ws s _ (fit_rises ws c.args.update.fit) c.put_all.ensures;
    }

-- Each turn puts the next write's version, and a key in range has a place.
use Rattle.std.proofs.Common.{◌<◌, sym, ap, ◌∙◌, arith}
use Rattle.std.proofs.ByRecursion.{All-get_or}
use Rattle.std.proofs.lemmas.List.{at_drop_all}
use Rattle.snapshot.proofs.Zeros.{zero_write}
use Rattle.snapshot.specs.Limits.{key_count}
use Rattle.newest_store.specs.Newest.{version_at}
use Rattle.store.proofs.Writes.{fit_rises, rising_keys}
use Rattle.newest_store.proofs.Putting.{put_all, put_gives}
use Rattle.newest_store.proofs.newest.put_all.Goals as goal

pub bounds-versions-from : goal.bounds-versions-from
bounds-versions-from c =
    let ws = c.args.update.writes.now in
    omega (arith, c.from.ensures, All-get_or (λ w. w.key < key_count) ws c.loop-write.write-index zero_write c.loop-write-test.true (rising_keys 0 ws (fit_rises ws c.args.update.fit)))

pub returns : goal.returns
returns c k =
    let t = c.args.update.timestamp in
    let ws = c.args.update.writes.now in
    let all = sym (at_drop_all (λ ws. put_all t ws c.loop-write.versions) ws c.loop-write.write-index c.loop-write-test.false) ∙ c.loop-write.invariant in
    ap (version_at k) all ∙ put_gives t k 0 ws c.args.versions.now c.requires (fit_rises ws c.args.update.fit)

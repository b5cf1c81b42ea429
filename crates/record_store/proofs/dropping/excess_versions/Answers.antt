-- Each write sets its key's number.
use Rattle.std.proofs.Common.{◌-◌, get_or, ap, ◌∙◌}
use Rattle.snapshot.proofs.Zeros.{zero_write}
use Rattle.records.specs.PerKeys.{number_for, with}
use Rattle.record_store.proofs.Excesses.{excess_set}
use Rattle.record_store.proofs.dropping.excess_versions.Goals as goal

pub loop-write-preserved : goal.loop-write-preserved
loop-write-preserved c =
    let ws = c.args.writes.now in
    let i = c.loop-write.write-index in
    excess_set c.args.depth ws c.args.counts.now i c.loop-write-test.true _ _ c.loop-write.invariant
    (λ k. c.set.ensures k
    ∙ ap (λ n. with (number_for c.loop-write.excess) (get_or ws i zero_write).key n k) (c.excess_of.ensures ∙ ap (λ n. n - (c.args.depth - 1)) c.get.ensures))

-- No key has more versions than there are records so far, and each record adds one to its key's.
use Rattle.std.proofs.Common.{◌<◌, length, arith}
use Rattle.records.proofs.Counting.{counted_le, count_more}
use Rattle.record_store.proofs.dropping.count_versions.Goals as goal

pub overflow_add-get : goal.overflow_add-get
overflow_add-get g c =
    let rs = g.M.RecordMemory.records c.args.memory.now in
    let i = c.loop-place.place in
    let key = c.at-key.result.key in
    omega (arith, c.get.ensures, c.loop-place.invariant key, counted_le rs i key)

pub loop-place-preserved : goal.loop-place-preserved
loop-place-preserved g c =
    let rs = g.M.RecordMemory.records c.args.memory.now in
    let i = c.loop-place.place in
    let within : i < length rs = omega arith in
    count_more rs i within _ _ c.get.result c.loop-place.invariant
    (rw (← c.at-key.ensures) c.get.ensures)
    (λ k. rw (← c.at-key.ensures) (c.set.ensures k))

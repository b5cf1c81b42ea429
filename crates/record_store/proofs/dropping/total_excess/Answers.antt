-- No write drops nothing, and one more adds what its key has too much.
use Rattle.std.proofs.Common.{◌-◌, [], get_or, sym, refl, ap, ◌∙◌, arith}
use Rattle.snapshot.proofs.Zeros.{zero_write}
use Rattle.snapshot.specs.Limits.{key_count}
use Rattle.store.proofs.Writes.{fit_rises}
use Rattle.records.proofs.Totals.{none_total}
use Rattle.record_store.proofs.Excesses.{dropped, total_step}
use Rattle.record_store.proofs.dropping.total_excess.Goals as goal

pub loop-write-init : goal.loop-write-init
loop-write-init c = record {
  total = sym (none_total key_count (dropped c.args.depth [] c.args.counts.now) (λ k. refl));
  few = omega arith;
}

pub loop-write-preserved : goal.loop-write-preserved
loop-write-preserved c =
    let ws = c.args.update.writes.now in
    let i = c.loop-write.write-index in
    let key = (get_or ws i zero_write).key in
    let step = total_step c.args.depth ws c.args.counts.now i c.loop-write-test.true (fit_rises ws c.args.update.fit) in
    let excess = c.excess_of.result in
    let here = c.excess_of.ensures ∙ ap (λ n. n - (c.args.depth - 1)) c.get.ensures in
    record {
      total = omega (arith, step, here, c.loop-write.invariant.total);
      few = omega (arith, here, c.requires.few key, c.loop-write.invariant.few);
    }

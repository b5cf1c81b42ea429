use Rattle.std.proofs.Common.{ℕ, [], slice_index_or, sym, ap, ◌∙◌, arith}
use Rattle.engine_model.specs.Caches.{holds}
use Rattle.engine_parts.specs.Caches.{cache_of, caches_of}
use Rattle.engine_parts.specs.WaitingNotices.{notices_of}
use Rattle.engine_parts.proofs.ItemLemmas.{item_there}
use Rattle.engine_parts.proofs.NoticeLemmas.{one_is_notified, one_is_not, one_write_less}
use Rattle.engine_parts.proofs.notices.Notices.raise_for.Goals as goal
use Rattle.engine_parts.proofs.notices.Notices.raise_for.Goals.{then-holds, else-holds}

pub loop-worker-preserved : goal.loop-worker-preserved
loop-worker-preserved c =
    let caches = c.args.caches.now in
    let write = slice_index_or c.args.writes.now c.loop-write.write-index record { key = 0; value = 0 } in
    let n = c.loop-worker.worker in
    let holder = λ (n : ℕ). holds write.key (caches_of caches n) in
    let there = item_there cache_of [] caches n c.index-caches-worker.result (omega arith) in
    elim c.if-holds.branch [
      | then-holds w ↦
          ap notices_of w.self-is
          ∙ w.raise.ensures
          ∙ one_is_notified holder _ write n _ _ c.loop-worker.invariant (ap (holds write.key) there ∙ sym w.if-holds.ensures)
      | else-holds w ↦
          ap notices_of w.self-is
          ∙ one_is_not holder _ write n _ _ c.loop-worker.invariant (ap (holds write.key) there ∙ sym w.if-holds.ensures)
    ]

pub loop-write-preserved : goal.loop-write-preserved
loop-write-preserved c =
    one_write_less (λ k cache. holds k cache) (caches_of c.args.caches.now) c.args.timestamp c.args.writes.now c.loop-write.write-index
    record { key = 0; value = 0 } c.loop-worker.worker _ _ (omega arith) (omega arith) c.loop-worker.invariant
    ∙ c.loop-write.invariant

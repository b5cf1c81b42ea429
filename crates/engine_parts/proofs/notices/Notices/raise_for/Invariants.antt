use Rattle.std.proofs.Common.{◌≡◌, drop}
use Rattle.engine_model.specs.Caches.{holds}
use Rattle.engine_model.specs.Notices.{raise_below, raise_all}
use Rattle.engine_parts.specs.Caches.{caches_of}
use Rattle.engine_parts.specs.WaitingNotices.{notices_of}
use Rattle.engine_parts.proofs.notices.Notices.raise_for.Given as goal

-- the workers so far have their notices of this write
abbrev pub invariant-loop-worker : goal.invariant-loop-worker
invariant-loop-worker l =
    notices_of l.self
    ≡ raise_below (λ n. holds l.write.key (caches_of l.caches n)) l.timestamp l.write l.worker (notices_of l.initial.self)

-- the writes that are left give the whole
abbrev pub invariant-loop-write : goal.invariant-loop-write
invariant-loop-write l =
    raise_all (λ k c. holds k c) (caches_of l.caches) l.timestamp (drop l.write-index l.writes) (notices_of l.self)
    ≡ raise_all (λ k c. holds k c) (caches_of l.caches) l.timestamp l.writes (notices_of l.fn.self)

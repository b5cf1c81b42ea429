-- The notices that a commit raises: key by key, and for each key worker by worker.
use Rattle.std.specs.Prelude.{ℕ, zero, suc, ◌-◌, ◌^◌, min, Bool, if◌then◌else◌, List, [], ◌∷◌, ◌++◌, length, nat_lt}
use Rattle.snapshot.specs.Limits.{worker_count, waiting_notices}
use Rattle.snapshot.specs.declared.account.Write.{Write}
use Rattle.engine_model.specs.Caches.{Cache}
use Rattle.engine_model.specs.Engines.{Notices}
use Rattle.engine_model.specs.declared.records.Notice.{Notice}

-- the count of lost notices goes no further
abbrev pub most_lost : ℕ
most_lost = 2 ^ 64 - 1

-- tells a worker of a write that was committed at t, which is its timestamp and as yet its promise
abbrev pub notice_of : ℕ → Write → ℕ → Notice
notice_of t w worker =
    record { worker = worker; key = w.key; reading = record { value = w.value; timestamp = t; promise = t } }

-- a notice waits if there is room, and else is lost and counted
abbrev pub raise : Notice → Notices → Notices
raise n ns =
    if nat_lt (length ns.waiting) waiting_notices then record { waiting = ns.waiting ++ (n ∷ []); lost = ns.lost }
    else record { waiting = ns.waiting; lost = min (suc ns.lost) most_lost }

-- one write, for the workers below n that hold its key
abbrev pub raise_below : (ℕ → Bool) → ℕ → Write → ℕ → Notices → Notices
raise_below holder t w zero ns = ns
raise_below holder t w (suc n) ns =
    let before = raise_below holder t w n ns in
    if holder n then raise (notice_of t w n) before else before

-- all writes
abbrev pub raise_all : (ℕ → Cache → Bool) → (ℕ → Cache) → ℕ → List Write → Notices → Notices
raise_all holds_key caches t [] ns = ns
raise_all holds_key caches t (w ∷ ws) ns =
    raise_all holds_key caches t ws (raise_below (λ n. holds_key w.key (caches n)) t w worker_count ns)

-- There is room for the update where the rules say so.
use Rattle.std.proofs.Common.{◌≡◌, ◌+◌, ◌-◌, true, false, if◌then◌else◌, nat_le, Ok, Err, length, take, sym, ap, ◌∙◌, arith}
use Rattle.std.proofs.lemmas.Bool.{le-leb, lt-leb}
use Rattle.std.proofs.lemmas.List.{length-take-le}
use Rattle.snapshot.specs.Limits.{most_records}
use Rattle.snapshot.specs.declared.fault.Refusal.TheVariants.{CapacityExceeded}
use Rattle.store.specs.Meaning.{store_fault, written_to}
use Rattle.records.proofs.Capacities.{room_bound, room_le}
use Rattle.records.proofs.Counting.{counted_within}
use Rattle.records.specs.Layouts.{room_for}
use Rattle.records.specs.PerKeys.{number_for, total_of}
use Rattle.records.specs.Counts.{excess_for}
use Rattle.record_store.proofs.Commits.{no_more_go, nothing_unfit, room_decides}
use Rattle.record_store.proofs.stores.RecordStore.excess.Goals as goal

pub total_excess-excess-requires : goal.total_excess-excess-requires
total_excess-excess-requires g c =
    let s = c.args.self.now in
    let records = g.M.RecordMemory.records s.memory in
    let fit = g.M.RecordMemory.fit s.memory in
    let bound = room_bound fit (length records) most_records (λ is_fit. (g.M.RecordMemory.bounds s.memory is_fit).1) in
    let long = length-take-le s.kept records (omega (arith, s.within, room_le fit (length records))) in
    record { few = λ k. omega (arith, s.counted k, counted_within (take s.kept records) k, bound, long, s.within) }

pub overflow_sub-self : goal.overflow_sub-self
overflow_sub-self g c =
    let s = c.args.self.now in
    let u = c.args.update in
    let records = g.M.RecordMemory.records s.memory in
    let fit = g.M.RecordMemory.fit s.memory in
    let long = length-take-le s.kept records (omega (arith, s.within, room_le fit (length records))) in
    omega (arith, c.total_excess-excess.ensures ∙ ap (λ d. total_of (λ k. excess_for d (written_to k u.writes.now) (number_for s.counts k))) c.DEPTH.ensures, no_more_go fit s.counts (take s.kept records) s.last u.writes.now s.sound (nothing_unfit fit (length records) s.kept records s.within) s.counted, long)

pub returns-then-room-self-clause-answer : goal.returns-then-room-self-clause-answer
returns-then-room-self-clause-answer g c =
    let s = c.args.self.now in
    let u = c.args.update in
    let records = g.M.RecordMemory.records s.memory in
    let fit = g.M.RecordMemory.fit s.memory in
    let excess = c.total_excess-excess.result in
    let long = length-take-le s.kept records (omega (arith, s.within, room_le fit (length records))) in
    let decides = room_decides fit (length records) s.counts (take s.kept records) s.last u.timestamp u.writes.now u.fit c.requires s.sound s.counted excess (c.total_excess-excess.ensures ∙ ap (λ d. total_of (λ k. excess_for d (written_to k u.writes.now) (number_for s.counts k))) c.DEPTH.ensures) in
    let full : nat_le (length u.writes.now + (length (take s.kept records) - excess)) (room_for fit (length records)) ≡ false =
    lt-leb _ _ (omega (arith, long, c.room.ensures, c.if-room-self.true, s.within)) in
    ap Err c.unnamed.ensures ∙ sym (ap (λ b. if b then Ok tt else Err (store_fault CapacityExceeded)) (decides ∙ full))

pub returns-clause-answer : goal.returns-clause-answer
returns-clause-answer g c =
    let s = c.args.self.now in
    let u = c.args.update in
    let records = g.M.RecordMemory.records s.memory in
    let fit = g.M.RecordMemory.fit s.memory in
    let excess = c.total_excess-excess.result in
    let long = length-take-le s.kept records (omega (arith, s.within, room_le fit (length records))) in
    let decides = room_decides fit (length records) s.counts (take s.kept records) s.last u.timestamp u.writes.now u.fit c.requires s.sound s.counted excess (c.total_excess-excess.ensures ∙ ap (λ d. total_of (λ k. excess_for d (written_to k u.writes.now) (number_for s.counts k))) c.DEPTH.ensures) in
    let enough : nat_le (length u.writes.now + (length (take s.kept records) - excess)) (room_for fit (length records)) ≡ true =
    le-leb _ _ (omega (arith, long, c.room.ensures, c.if-room-self.false, s.within)) in
    sym (ap (λ b. if b then Ok tt else Err (store_fault CapacityExceeded)) (decides ∙ enough))

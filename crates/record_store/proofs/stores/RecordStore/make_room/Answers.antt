-- Where none is too many, all stay.
use Rattle.std.proofs.Common.{◌≡◌, ◌+◌, true, length, take, ap, ◌∙◌, subst, arith}
use Rattle.std.proofs.lemmas.List.{length-take-le}
use Rattle.store.specs.Meaning.{written_to}
use Rattle.records.proofs.Capacities.{room_le}
use Rattle.records.proofs.Dropping.{same_function}
use Rattle.records.specs.Layouts.{are_sound}
use Rattle.records.specs.PerKeys.{number_for}
use Rattle.records.specs.Records.{drop_firsts}
use Rattle.records.specs.Counts.{excess_for}
use Rattle.record_store.proofs.Commits.{all_stay, left_over, none_goes}
use Rattle.record_store.proofs.stores.RecordStore.make_room.Goals as goal

pub returns-else-excess-gt0-clause-left : goal.returns-else-excess-gt0-clause-left
returns-else-excess-gt0-clause-left g c =
    let s = c.args.self.now in
    all_stay _ (take s.kept (g.M.RecordMemory.records s.memory))
    (none_goes s.counts c.args.writes.now (omega (arith, c.requires.excess, c.if-excess-gt0.false)))

pub returns-then-excess-gt0-clause-number : goal.returns-then-excess-gt0-clause-number
returns-then-excess-gt0-clause-number g c =
    let records = g.M.RecordMemory.records in
    let s = c.args.self.now in
    let rest = c.drop_oldest.new.self in
    let rs = take s.kept (records s.memory) in
    let left = take rest.kept (records rest.memory) in
    let sound = subst (λ b. are_sound b rs s.last ≡ true) c.requires.fit s.sound in
    let over : length left + c.args.excess ≡ length rs = left_over s.counts c.args.writes.now rs s.counted left (c.drop_oldest.ensures.left ∙ ap (λ f. drop_firsts f rs) (same_function (λ k. c.excess_versions-numbers.ensures k ∙ ap (λ d. excess_for d (written_to k c.args.writes.now) (number_for s.counts k)) c.DEPTH.ensures))) c.args.excess s.last c.requires.excess sound in
    let room = room_le (g.M.RecordMemory.fit s.memory) (length (records s.memory)) in
    let room_left = room_le (g.M.RecordMemory.fit rest.memory) (length (records rest.memory)) in
    omega (arith, over, s.within, rest.within, room, room_left, length-take-le s.kept (records s.memory) (omega (arith, s.within, room)), length-take-le rest.kept (records rest.memory) (omega (arith, rest.within, room_left)))

-- There is room, and the records are those that a commit leaves.
use Rattle.std.proofs.Common.{◌≡◌, true, length, take, sym, refl, ap, subst, ◌∙◌, arith}
use Rattle.store.proofs.Writes.{fit_some}
use Rattle.store.specs.Meaning.{with_writes}
use Rattle.records.proofs.Capacities.{room_le}
use Rattle.records.specs.Layouts.{are_sound, record_depth, records_meaning, room_for}
use Rattle.record_store.proofs.Commits.{after_meaning, after_sound, fit_where_room, is_after, meaning_as, room_as, sound_as}
use Rattle.record_store.proofs.stores.RecordStore.write.Goals as goal

pub make_room-requires-clause-fit : goal.make_room-requires-clause-fit
make_room-requires-clause-fit g c =
    let s = c.args.self.now in
    let u = c.args.update in
    fit_where_room (g.M.RecordMemory.fit s.memory) (length (g.M.RecordMemory.records s.memory)) (omega (arith, c.requires.room, fit_some u.writes.now u.fit))

pub append-requires-clause-room : goal.append-requires-clause-room
append-requires-clause-room g c =
    let s = c.args.self.now in
    let room = room_le (g.M.RecordMemory.fit s.memory) (length (g.M.RecordMemory.records s.memory)) in
    omega (arith, c.make_room.ensures.number, c.make_room.ensures.size, c.requires.room, room)

pub invariant_of-self : goal.invariant_of-self
invariant_of-self g c =
    let s = c.args.self.now in
    let u = c.args.update in
    let ws = u.writes.now in
    let records = g.M.RecordMemory.records in
    let fit = g.M.RecordMemory.fit in
    let rs = take s.kept (records s.memory) in
    let made = c.make_room.ensures in
    let added = c.append.ensures in
    let is_fit = fit_where_room (fit s.memory) (length (records s.memory)) (omega (arith, c.requires.room, fit_some ws u.fit)) in
    let fits = added.same.1 ∙ made.same.1 ∙ is_fit in
    let sound = subst (λ b. are_sound b rs s.last ≡ true) is_fit s.sound in
    let all = is_after s.counts ws rs s.counted _ made.left u.timestamp _ added.added in
    let room : room_for (fit c.append.new.memory) (length (records c.append.new.memory)) ≡ length (records c.append.new.memory) =
    room_as true (fit c.append.new.memory) (length (records c.append.new.memory)) (length (records c.append.new.memory)) fits refl
    in
    let room_before = room_le (fit s.memory) (length (records s.memory)) in
    record {
      within = omega (arith, room, made.number, made.size, added.size, c.requires.room, room_before);
      tidy = λ _. added.tidy (c.make_room.new.self.tidy (made.same.1 ∙ is_fit));
      sound = sound_as true (fit c.append.new.memory) _ _ u.timestamp fits all (after_sound u.timestamp ws u.fit rs 0 s.last c.requires.later sound);
      counted = added.counted;
    }

pub returns-clause-after : goal.returns-clause-after
returns-clause-after g c =
    let s = c.args.self.now in
    let u = c.args.update in
    let ws = u.writes.now in
    let records = g.M.RecordMemory.records in
    let fit = g.M.RecordMemory.fit in
    let rs = take s.kept (records s.memory) in
    let size = length (records s.memory) in
    let made = c.make_room.ensures in
    let added = c.append.ensures in
    let is_fit = fit_where_room (fit s.memory) (length (records s.memory)) (omega (arith, c.requires.room, fit_some ws u.fit)) in
    let sound = subst (λ b. are_sound b rs s.last ≡ true) is_fit s.sound in
    let all = is_after s.counts ws rs s.counted _ made.left u.timestamp _ added.added in
    meaning_as true (fit c.append.new.memory) size (length (records c.append.new.memory)) _ _ u.timestamp (added.same.1 ∙ made.same.1 ∙ is_fit) (added.size ∙ made.size) all
    ∙ after_meaning u.timestamp ws u.fit rs size s.last c.requires.later sound
    ∙ ap (λ b. with_writes record_depth u.timestamp ws (records_meaning b size rs s.last)) (sym is_fit)

-- What stays is sound, and its numbers are those that are left.
use Rattle.std.proofs.Common.{◌≡◌, true, take, sym, subst, ◌∙◌, arith}
use Rattle.records.proofs.Remaining.{left_counts}
use Rattle.records.specs.Layouts.{are_sound}
use Rattle.records.specs.PerKeys.{number_for}
use Rattle.record_store.proofs.Commits.{pruned_sound, room_as, sound_as}
use Rattle.records.specs.Counts.{CountsOf}
use Rattle.record_store.proofs.stores.RecordStore.drop_oldest.Goals as goal

pub invariant_of-self : goal.invariant_of-self
invariant_of-self g c =
    let s = c.args.self.now in
    let records = g.M.RecordMemory.records in
    let fit = g.M.RecordMemory.fit in
    let e = number_for c.args.numbers in
    let rs = take s.kept (records s.memory) in
    let dropped = c.drop_runs-left.ensures in
    let is = c.clear.ensures.front ∙ dropped.dropped in
    let fits = c.clear.ensures.same.1 ∙ dropped.same.1 ∙ c.requires.fit in
    let sound = subst (λ b. are_sound b rs s.last ≡ true) c.requires.fit s.sound in
    record {
      within = omega (arith, room_as _ _ _ _ (c.clear.ensures.same.1 ∙ dropped.same.1) (c.clear.ensures.size ∙ dropped.size), dropped.left, s.within);
      tidy = λ _. c.clear.ensures.tidy (dropped.tidy (s.tidy c.requires.fit));
      sound = sound_as _ _ _ _ s.last fits is (pruned_sound 0 0 s.last rs sound e);
      counted = subst (CountsOf c.subtract.new.self) (sym is) (left_counts s.counts c.subtract.new.self e rs s.counted c.subtract.ensures);
    }

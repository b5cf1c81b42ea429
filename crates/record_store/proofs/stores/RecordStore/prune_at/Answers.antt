-- Each key drops what is outdated, or nothing is.
use Rattle.std.proofs.Common.{◌≡◌, ◌≤◌, true, length, take, sym, refl, ap, subst, ◌∙◌, arith}
use Rattle.std.proofs.lemmas.List.{length-take-le}
use Rattle.store.specs.Meaning.{pruned_at}
use Rattle.records.proofs.Capacities.{room_le}
use Rattle.records.proofs.Outdated.{outdated_numbers}
use Rattle.records.proofs.Totals.{all_none}
use Rattle.records.specs.Layouts.{are_sound, records_meaning}
use Rattle.records.specs.PerKeys.{number_for, total_of}
use Rattle.record_store.proofs.Commits.{all_stay, meaning_as, outdated_total, pruned_meaning}
use Rattle.record_store.proofs.stores.RecordStore.prune_at.Goals as goal

pub drop_oldest-requires-clause-total : goal.drop_oldest-requires-clause-total
drop_oldest-requires-clause-total g c =
    let s = c.args.self.now in
    let xs = g.M.RecordMemory.records s.memory in
    let rs = take s.kept xs in
    let up = c.count_up_to-end.ensures in
    let within : s.kept ≤ length xs = omega (arith, s.within, room_le (g.M.RecordMemory.fit s.memory) (length xs)) in
    let sound = subst (λ b. are_sound b rs s.last ≡ true) c.requires.fit s.sound in
    let numbers = outdated_numbers xs c.count_up_to-end.result s.kept c.args.time up.within within up.before up.after c.count_versions.result c.all_but_one-outdated.result c.count_versions.ensures c.all_but_one-outdated.ensures in
    omega (arith, c.total-total.ensures, outdated_total c.args.time 0 s.last rs sound (number_for c.all_but_one-outdated.result) numbers, length-take-le s.kept xs within, within, (g.M.RecordMemory.bounds s.memory c.requires.fit).1)

pub returns-then-total-gt0-clause-after : goal.returns-then-total-gt0-clause-after
returns-then-total-gt0-clause-after g c =
    let s = c.args.self.now in
    let records = g.M.RecordMemory.records in
    let fit = g.M.RecordMemory.fit in
    let xs = records s.memory in
    let rs = take s.kept xs in
    let up = c.count_up_to-end.ensures in
    let within : s.kept ≤ length xs = omega (arith, s.within, room_le (fit s.memory) (length xs)) in
    let sound = subst (λ b. are_sound b rs s.last ≡ true) c.requires.fit s.sound in
    let numbers = outdated_numbers xs c.count_up_to-end.result s.kept c.args.time up.within within up.before up.after c.count_versions.result c.all_but_one-outdated.result c.count_versions.ensures c.all_but_one-outdated.ensures in
    let dropped = c.drop_oldest.ensures in
    meaning_as true (fit c.drop_oldest.new.self.memory) (length xs) (length (records c.drop_oldest.new.self.memory)) _ _ c.drop_oldest.new.self.last (dropped.same.1 ∙ c.requires.fit) dropped.size dropped.left
    ∙ ap (records_meaning true (length xs) _) dropped.last
    ∙ pruned_meaning c.args.time (length xs) s.last rs sound (number_for c.all_but_one-outdated.result) numbers
    ∙ ap (λ b. pruned_at c.args.time (records_meaning b (length xs) rs s.last)) (sym c.requires.fit)

pub returns-else-total-gt0-clause-after : goal.returns-else-total-gt0-clause-after
returns-else-total-gt0-clause-after g c =
    let s = c.args.self.now in
    let records = g.M.RecordMemory.records in
    let fit = g.M.RecordMemory.fit in
    let xs = records s.memory in
    let rs = take s.kept xs in
    let up = c.count_up_to-end.ensures in
    let within : s.kept ≤ length xs = omega (arith, s.within, room_le (fit s.memory) (length xs)) in
    let sound = subst (λ b. are_sound b rs s.last ≡ true) c.requires.fit s.sound in
    let numbers = outdated_numbers xs c.count_up_to-end.result s.kept c.args.time up.within within up.before up.after c.count_versions.result c.all_but_one-outdated.result c.count_versions.ensures c.all_but_one-outdated.ensures in
    let e = number_for c.all_but_one-outdated.result in
    let none : total_of e ≡ 0 = omega (arith, c.total-total.ensures, c.if-total-gt0.false) in
    meaning_as true (fit s.memory) (length xs) (length xs) _ rs s.last c.requires.fit refl (all_stay e rs (all_none c.all_but_one-outdated.result none))
    ∙ pruned_meaning c.args.time (length xs) s.last rs sound e numbers
    ∙ ap (λ b. pruned_at c.args.time (records_meaning b (length xs) rs s.last)) (sym c.requires.fit)

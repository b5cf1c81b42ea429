-- The next run moves down, and then one record goes, or none is left.
use Rattle.std.proofs.Common.{◌≡◌, ℕ, ◌+◌, ◌-◌, ◌<◌, slice_index_or, ◌∙◌, ap, arith}
use Rattle.std.proofs.lemmas.Bool.{lt-ltb}
use Rattle.records.proofs.Running.{Ran, run_still, run_moved, one_gone, still_there}
use Rattle.records.proofs.Totals.{number_le_total, total_less}
use Rattle.records.specs.PerKeys.{number_for, one_less}
use Rattle.records.specs.Records.{no_record}
use Rattle.record_store.proofs.dropping.drop_runs.Goals as goal
use Rattle.record_store.proofs.dropping.drop_runs.Goals.{Then-from-kept, then-left-from, else-left-from}

pub loop-from-preserved : goal.loop-from-preserved
loop-from-preserved g c =
    let at = c.loop-from in
    let ran = at.invariant.ran in
    let named = c.next_to_drop-named in
    elim c.if-left-from.branch [
      | then-left-from w ↦ rw w.memory-is (record {
        ran = run_moved _ _ _ _ _ at.left at.from ran named.result named.ensures.after named.ensures.within named.ensures.others _ w.move_down.ensures.value;
        total = at.invariant.total;
        tidy = λ t. w.move_down.ensures.tidy c.args.kept named.ensures.within (at.invariant.tidy t);
        same = (w.move_down.ensures.same.0 ∙ at.invariant.same.0, w.move_down.ensures.same.1 ∙ at.invariant.same.1);
      })
      | else-left-from w ↦ rw w.memory-is (record {
        ran = run_still _ _ _ _ _ at.left at.from ran named.result named.ensures.after named.ensures.within named.ensures.others (omega (arith, ran.order, w.if-left-from.false));
        total = at.invariant.total;
        tidy = at.invariant.tidy;
        same = at.invariant.same;
      })
    ]

-- the run before the next record that goes
ran_on : (g : _) (c : Then-from-kept g) → Ran (number_for c.args.numbers) (g.M.RecordMemory.records c.args.memory.now) c.args.kept (number_for c.loop-from.numbers) (g.M.RecordMemory.records c.if-left-from.memory) (c.loop-from.left + (c.next_to_drop-named.result - c.loop-from.from)) c.next_to_drop-named.result
ran_on g c =
    let at = c.loop-from in
    let ran = at.invariant.ran in
    let named = c.next_to_drop-named in
    elim c.if-left-from.branch [
      | then-left-from w ↦ rw w.memory-is (run_moved _ _ _ _ _ at.left at.from ran named.result named.ensures.after named.ensures.within named.ensures.others _ w.move_down.ensures.value)
      | else-left-from w ↦ rw w.memory-is (run_still _ _ _ _ _ at.left at.from ran named.result named.ensures.after named.ensures.within named.ensures.others (omega (arith, ran.order, w.if-left-from.false)))
    ]

-- that record's key has a number
some_left : (g : _) (c : Then-from-kept g) → 0 < number_for c.loop-from.numbers (slice_index_or (g.M.RecordMemory.records c.if-left-from.memory) c.next_to_drop-named.result no_record).key
some_left g c =
    let at = c.loop-from in
    let named = c.next_to_drop-named in
    let there = still_there _ _ _ _ (g.M.RecordMemory.records at.memory) (g.M.RecordMemory.records c.if-left-from.memory) at.left at.from _ named.result at.invariant.ran (ran_on g c) named.ensures.after in
    omega (arith, ap (λ r. number_for at.numbers r.key) there, named.ensures.this c.if-from-kept.true)

pub overflow_sub-total : goal.overflow_sub-total
overflow_sub-total g c =
    let key = (slice_index_or (g.M.RecordMemory.records c.if-left-from.memory) c.next_to_drop-named.result no_record).key in
    let some = some_left g (goal.at.overflow_sub-total g c).Then-from-kept in
    omega (arith, some, number_le_total c.loop-from.numbers key, c.loop-from.invariant.total)

pub loop-from-preserved-then-from-kept : goal.loop-from-preserved-then-from-kept
loop-from-preserved-then-from-kept g c =
    let here = (goal.at.loop-from-preserved-then-from-kept g c).Then-from-kept in
    let at = c.loop-from in
    let named = c.next_to_drop-named in
    let r = slice_index_or (g.M.RecordMemory.records c.if-left-from.memory) named.result no_record in
    let some = some_left g here in
    let less : (k : ℕ) → number_for c.take_one.new.self k ≡ one_less (number_for at.numbers) r.key k =
    λ k. c.take_one.ensures.after k ∙ ap (λ q. one_less (number_for at.numbers) q.key k) c.at.ensures
    in
    record {
      ran = one_gone _ _ _ _ _ _ named.result (ran_on g here) c.if-from-kept.true (lt-ltb 0 _ some) _ less;
      total = omega (arith, total_less at.numbers c.take_one.new.self r.key some less, at.invariant.total);
      tidy = λ t. elim c.if-left-from.branch [
        | then-left-from w ↦ rw w.memory-is (w.move_down.ensures.tidy c.args.kept named.ensures.within (at.invariant.tidy t))
        | else-left-from w ↦ rw w.memory-is (at.invariant.tidy t)
      ];
      same = elim c.if-left-from.branch [
        | then-left-from w ↦ rw w.memory-is (w.move_down.ensures.same.0 ∙ at.invariant.same.0, w.move_down.ensures.same.1 ∙ at.invariant.same.1)
        | else-left-from w ↦ rw w.memory-is at.invariant.same
      ];
    }

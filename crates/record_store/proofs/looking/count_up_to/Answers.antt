-- Each record that is looked at decides for those before it, or for those from it on.
use Rattle.std.proofs.Common.{◌≤◌, ◌<◌, ◌-◌, ◌+◌, ◌/◌, subst, arith}
use Rattle.records.proofs.Orders.{none_later, all_later}
use Rattle.record_store.proofs.looking.count_up_to.Goals as goal
use Rattle.record_store.proofs.looking.count_up_to.Goals.{then-loop-step-test+else-time-at, else-loop-step-test}

pub loop-step-preserved : goal.loop-step-preserved
loop-step-preserved g c =
    let at = c.loop-step in
    let known = at.invariant in
    let lt : at.high - at.step < c.args.kept = omega (arith, known.within, known.some, c.loop-step-test.true) in
    record {
      within = omega (arith, known.within);
      some = omega (arith, known.some, c.saturating_mul-step.ensures);
      after = all_later _ c.args.kept c.args.time c.requires.within c.requires.order _ lt (subst (λ r. c.args.time < r.timestamp) c.at.ensures c.if-time-at.true);
    }

pub loop-low-init : goal.loop-low-init
loop-low-init g c =
    let at = c.loop-step in
    let known = at.invariant in
    let low = c.saturating_sub-low.ensures in
    elim c.loop-step-test.branch [
      | then-loop-step-test+else-time-at w ↦
          let lt : at.high - at.step < c.args.kept = omega (arith, known.within, known.some, w.loop-step-test.true) in
          let early = none_later _ c.args.kept c.args.time c.requires.within c.requires.order _ lt (subst (λ r. r.timestamp ≤ c.args.time) w.at.ensures w.if-time-at.false) in
          record {
            order = omega (arith, low);
            within = known.within;
            before = λ i below. early i (omega (arith, low, below));
            after = known.after;
          }
      | else-loop-step-test w ↦
          record {
            order = omega (arith, low);
            within = known.within;
            before = λ i below. omega (arith, low, below, w.loop-step-test.false);
            after = known.after;
          }
    ]

pub loop-low-preserved-then-at-time : goal.loop-low-preserved-then-at-time
loop-low-preserved-then-at-time g c =
    let at = c.loop-low in
    let known = at.invariant in
    let middle = at.low + (at.high - at.low) / 2 in
    let below : middle < at.high = omega (arith, c.loop-low-test.true) in
    let early = none_later _ c.args.kept c.args.time c.requires.within c.requires.order middle (omega (arith, below, known.within)) (subst (λ r. r.timestamp ≤ c.args.time) c.at-in-loop-low.ensures c.if-at-time.true) in
    record {
      order = omega (arith, below);
      within = known.within;
      before = λ i lt. early i (omega (arith, lt));
      after = known.after;
    }

pub loop-low-preserved : goal.loop-low-preserved
loop-low-preserved g c =
    let at = c.loop-low in
    let known = at.invariant in
    let middle = at.low + (at.high - at.low) / 2 in
    let below : middle < at.high = omega (arith, c.loop-low-test.true) in
    record {
      order = omega arith;
      within = omega (arith, below, known.within);
      before = known.before;
      after = all_later _ c.args.kept c.args.time c.requires.within c.requires.order middle (omega (arith, below, known.within)) (subst (λ r. c.args.time < r.timestamp) c.at-in-loop-low.ensures c.if-at-time.false);
    }

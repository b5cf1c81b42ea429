-- Nor is the one before them.
use Rattle.std.proofs.Common.{◌≡◌, ◌+◌, ◌-◌, filter, take, ap, ◌∙◌, arith}
use Rattle.records.proofs.Others.{not_this}
use Rattle.records.specs.Records.{has_key}
use Rattle.record_store.proofs.looking.none_of_last.Goals as goal

pub loop-back-preserved : goal.loop-back-preserved
loop-back-preserved g c =
    let xs = g.M.RecordMemory.records c.args.memory.now in
    let end = c.args.end in
    let back = c.loop-back.back in
    let next : end - (back + 1) ≡ end - 1 - back = omega arith in
    let here : end - 1 - back + 1 ≡ end - back = omega (arith, c.requires.enough, c.loop-back-test.true) in
    ap (λ m. filter (has_key c.args.key) (take m xs)) next
    ∙ not_this c.args.key (end - 1 - back) xs c.at.result (omega (arith, c.requires.enough, c.requires.within, c.loop-back-test.true)) c.at.ensures c.if-at-key.false
    ∙ ap (λ m. filter (has_key c.args.key) (take m xs)) here
    ∙ c.loop-back.invariant

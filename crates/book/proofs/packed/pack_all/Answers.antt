-- Each turn writes one record where the records before it end.
use Rattle.std.proofs.Common.{◌≡◌, ◌*◌, ◌++◌, length, take, sym, ap, ◌∙◌, arith}
use Rattle.std.specs.List.{flat_map}
use Rattle.snapshot.specs.Overwriting.{overwritten}
use Rattle.book.proofs.Packing.{length_joined_front, joined_next}
use Rattle.snapshot.proofs.Overwritten.{part_more}
use Rattle.book.proofs.packed.pack_all.Goals as goal

pub loop-i-preserved : goal.loop-i-preserved
loop-i-preserved g c =
    let pack = g.T.Packed.packed in
    let xs = c.args.records.now in
    let i = c.loop-i.i in
    let old = c.args.room.now in
    let x = c.index-records-i.result in
    let before = flat_map pack (take i xs) in
    let there : c.SIZE.result * i ≡ length before =
    ap (λ n. n * i) c.SIZE.ensures ∙ sym (length_joined_front pack g.T.Packed.SIZE g.T.Packed.sized xs i (omega arith)) in
    part_more old before (c.SIZE.result * i) there c.loop-i.invariant (pack x) c.pack.ensures
    ∙ ap (λ bs. overwritten (before ++ bs) old) (ap pack c.index-records-i.is)
    ∙ ap (λ bs. overwritten bs old) (sym (joined_next pack xs i x c.loop-i-test.true))

-- Each turn adds the record that stands behind those before it.
use Rattle.std.proofs.Common.{◌≡◌, ◌*◌, drop, sym, ap, ◌∙◌, add-one}
use Rattle.std.proofs.lemmas.List.{take_rest}
use Rattle.book.proofs.Packing.{records_next}
use Rattle.book.proofs.packed.unpack_all.Goals as goal

pub loop-i-preserved : goal.loop-i-preserved
loop-i-preserved g c =
    let one = g.T.Packed.unpacked in
    let size = g.T.Packed.SIZE in
    let i = c.loop-i.i in
    let bs = c.args.bytes.now in
    let here : c.unpack.result ≡ one (drop (size * i) bs) =
    c.unpack.ensures ∙ ap one (take_rest bs (c.SIZE.result * i) ∙ ap (λ n. drop (n * i) bs) c.SIZE.ensures) in
    rw (c.push.ensures.items, c.loop-i.invariant, here, add-one) (sym (records_next one size i bs))

-- Six writes, one after the other.
use Rattle.std.proofs.Common.{[], ◌∷◌, ◌++◌, length, drop, refl, ap, arith}
use Rattle.book.specs.Bytes.{highest_first}
use Rattle.snapshot.proofs.Overwritten.{one_more}
use Rattle.book.proofs.Placing.{number_more}
use Rattle.book.proofs.lawful.LawfulAccount.put_head.Goals as goal

pub returns : goal.returns
returns c =
    let a = c.args.self.now.account in
    let old = c.args.buffer.now in
    let mark = 0xC3 ∷ 0x3C ∷ [] in
    let counts = mark ++ (length a.readings.now ∷ length a.writes.now ∷ []) in
    let low = highest_first 8 a.interval.low in
    let high = highest_first 8 a.interval.high in
    let start = ap (λ bs. bs ++ drop 2 old) c.copy_from_slice.ensures.after in
    let readings = one_more old mark 2 refl start (length a.readings.now) (omega arith) in
    let writes = one_more old (mark ++ (length a.readings.now ∷ [])) 3 refl readings (length a.writes.now) (omega arith) in
    let one = number_more old counts 4 8 a.interval.low refl writes c.write_u64.ensures in
    let two = number_more old (counts ++ low) 12 8 a.interval.high refl one c.write_u64-2.ensures in
    number_more old ((counts ++ low) ++ high) 20 8 a.timestamp refl two c.write_u64-3.ensures

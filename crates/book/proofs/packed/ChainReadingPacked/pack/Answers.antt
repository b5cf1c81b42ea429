-- Five writes, one after the other.
use Rattle.std.proofs.Common.{[], ◌∷◌, ◌++◌, refl, arith}
use Rattle.book.specs.Bytes.{highest_first}
use Rattle.snapshot.proofs.Overwritten.{one_more}
use Rattle.book.proofs.Placing.{number_more}
use Rattle.book.proofs.packed.ChainReadingPacked.pack.Goals as goal

pub returns : goal.returns
returns c =
    let r = c.args.self.now in
    let old = c.args.room.now in
    let names = r.worker ∷ r.key ∷ [] in
    let value = highest_first 4 r.reading.value in
    let timestamp = highest_first 8 r.reading.timestamp in
    let worker = one_more old [] 0 refl refl r.worker (omega arith) in
    let key = one_more old (r.worker ∷ []) 1 refl worker r.key (omega arith) in
    let one = number_more old names 2 4 r.reading.value refl key c.write_u32.ensures in
    let two = number_more old (names ++ value) 6 8 r.reading.timestamp refl one c.write_u64.ensures in
    number_more old ((names ++ value) ++ timestamp) 14 8 r.reading.promise refl two c.write_u64-2.ensures

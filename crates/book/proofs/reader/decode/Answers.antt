-- The parts that are read make up the account that the bytes tell.
use Rattle.std.proofs.Common.{◌+◌, ◌*◌, drop, ap, ◌∙◌, arith}
use Rattle.std.proofs.lemmas.List.{take_rest}
use Rattle.book.specs.Bytes.{records_from}
use Rattle.book.specs.Format.{reading_from, write_from}
use Rattle.book.proofs.Numbers.{big_number_at}
use Rattle.book.proofs.reader.decode.Goals as goal

pub returns : goal.returns
returns c =
    let bs = c.args.bytes.now in
    let n = c.args.counts.readings in
    let m = c.args.counts.writes in
    let readings =
    c.as_slice.ensures.value
    ∙ c.unpack_all.ensures
    ∙ ap (records_from reading_from 22 n) (take_rest bs 28)
    ∙ ap (λ k. records_from reading_from 22 k.readings (drop 28 bs)) c.requires.counts in
    let writes =
    c.as_slice-2.ensures.value
    ∙ c.unpack_all-2.ensures
    ∙ ap (records_from write_from 5 m) (take_rest bs c.writes_place.result)
    ∙ ap (λ at. records_from write_from 5 m (drop at bs)) c.writes_place.ensures
    ∙ ap (λ k. records_from write_from 5 k.writes (drop (28 + 22 * k.readings) bs)) c.requires.counts in
    λ i.
    record {
      low = (c.read_u64.ensures ∙ big_number_at 4 8 bs (omega (arith, c.requires.fits))) i;
      high = (c.read_u64-2.ensures ∙ big_number_at 12 8 bs (omega (arith, c.requires.fits))) i;
      timestamp = (c.read_u64-3.ensures ∙ big_number_at 20 8 bs (omega (arith, c.requires.fits))) i;
      readings = readings i;
      writes = writes i;
    }

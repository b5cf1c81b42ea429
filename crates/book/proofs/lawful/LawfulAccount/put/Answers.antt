-- Head, readings, writes and last byte, one after the other.
use Rattle.std.proofs.Common.{◌≡◌, ◌++◌, length, refl, arith}
use Rattle.std.specs.List.{flat_map}
use Rattle.book.specs.Format.{reading_bytes, write_bytes, head_bytes, as_account}
use Rattle.snapshot.proofs.Overwritten.{part_more}
use Rattle.book.proofs.Records.{length_readings}
use Rattle.book.proofs.Writing.{last_written}
use Rattle.book.proofs.lawful.LawfulAccount.put.Goals as goal

pub returns : goal.returns
returns c =
    let a = as_account c.args.self.now.account in
    let old = c.args.buffer.now in
    let head = head_bytes a in
    let rs = flat_map reading_bytes a.readings in
    let place : c.writes_place.result ≡ length (head ++ rs) = omega (arith, c.writes_place.ensures, length_readings a.readings) in
    let one = part_more old head 28 refl c.put_head.ensures rs c.pack_all.ensures in
    let two = part_more old (head ++ rs) c.writes_place.result place one (flat_map write_bytes a.writes) c.pack_all-2.ensures in
    last_written a old c.requires _ c.last_byte.result two (omega (arith, c.size-last.ensures)) c.last_byte.ensures.value

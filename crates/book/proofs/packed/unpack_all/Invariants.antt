-- The list has the records so far.
use Rattle.std.proofs.Common.{◌≡◌}
use Rattle.book.specs.Bytes.{records_from}
use Rattle.book.proofs.packed.unpack_all.Given as goal

abbrev pub invariant-loop-i : goal.invariant-loop-i
invariant-loop-i g l = l.records.items ≡ records_from g.T.Packed.unpacked g.T.Packed.SIZE l.i l.bytes

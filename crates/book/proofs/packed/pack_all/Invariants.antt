-- The records so far stand at the front of the room.
use Rattle.std.proofs.Common.{◌≡◌, take}
use Rattle.std.specs.List.{flat_map}
use Rattle.snapshot.specs.Overwriting.{overwritten}
use Rattle.book.proofs.packed.pack_all.Given as goal

abbrev pub invariant-loop-i : goal.invariant-loop-i
invariant-loop-i g l = l.room ≡ overwritten (flat_map g.T.Packed.packed (take l.i l.records)) l.initial.room

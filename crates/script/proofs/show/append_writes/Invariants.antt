-- The lines of the writes so far are added.
use Rattle.std.proofs.Common.{◌≡◌, ◌++◌, take}
use Rattle.std.specs.List.{flat_map}
use Rattle.script.specs.Shown.{write_line}
use Rattle.script.proofs.show.append_writes.Given as goal

abbrev pub invariant-loop-write : goal.invariant-loop-write
invariant-loop-write l = l.line.items ≡ l.fn.line.items ++ flat_map write_line (take l.write-index l.writes)

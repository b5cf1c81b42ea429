-- The lines of the readings so far are added.
use Rattle.std.proofs.Common.{◌≡◌, ◌++◌, take}
use Rattle.std.specs.List.{flat_map}
use Rattle.script.specs.Shown.{reading_line}
use Rattle.script.proofs.show.append_readings.Given as goal

abbrev pub invariant-loop-made : goal.invariant-loop-made
invariant-loop-made l = l.line.items ≡ l.fn.line.items ++ flat_map reading_line (take l.made-index l.readings)

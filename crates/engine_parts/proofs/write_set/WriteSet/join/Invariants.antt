use Rattle.std.proofs.Common.{◌≡◌, ◌≤◌, length, drop}
use Rattle.snapshot.specs.Limits.{write_keys}
use Rattle.engine_model.specs.WriteSets.{united}
use Rattle.engine_parts.specs.WriteSets.{writes_of}
use Rattle.engine_parts.proofs.write_set.WriteSet.join.Given as goal

-- with the writes that are left the set becomes what the two become
abbrev pub invariant-loop-write : goal.invariant-loop-write
invariant-loop-write l =
    record {
      fits : length (writes_of l.both) ≤ write_keys;
      left : united (writes_of l.both) (drop l.write-index l.write-items) ≡ united (writes_of l.self) (writes_of l.later);
    }

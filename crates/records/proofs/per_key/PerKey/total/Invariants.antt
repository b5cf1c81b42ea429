-- The total is that of the keys so far, none of which has more than a number of 16 bits.
use Rattle.std.proofs.Common.{◌≡◌, ◌≤◌, ◌*◌}
use Rattle.records.specs.PerKeys.{number_for, total_below}
use Rattle.records.proofs.per_key.PerKey.total.Given as goal

abbrev pub invariant-loop-key : goal.invariant-loop-key
invariant-loop-key l =
    record {
      total : l.total ≡ total_below l.key (number_for l.self);
      few : l.total ≤ l.key * 65535;
    }

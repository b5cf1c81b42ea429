-- One key's number more.
use Rattle.std.proofs.Common.{sym, arith}
use Rattle.records.specs.PerKeys.{number_for}
use Rattle.records.proofs.Totals.{total_none, total_more}
use Rattle.records.proofs.per_key.PerKey.total.Goals as goal

pub loop-key-init : goal.loop-key-init
loop-key-init c = record {
  total = sym (total_none (number_for c.args.self.now));
  few = omega arith;
}

pub loop-key-preserved : goal.loop-key-preserved
loop-key-preserved c =
    record {
      total = omega (arith, total_more c.loop-key.key (number_for c.args.self.now), c.loop-key.invariant.total, c.get.ensures);
      few = omega (arith, c.loop-key.invariant.few);
    }

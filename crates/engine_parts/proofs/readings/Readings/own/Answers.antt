use Rattle.std.proofs.Common.{sym, rules}
use Rattle.engine_parts.proofs.KeyLemmas.{none_own}
use Rattle.engine_parts.specs.KeysRead.{readings_of}
use Rattle.engine_parts.proofs.readings.Readings.own.Goals as goal

pub returns-then-not-may_read : goal.returns-then-not-may_read
returns-then-not-may_read c = sym (none_own c.args.leg c.args.key (readings_of c.args.self.now) (search rules))

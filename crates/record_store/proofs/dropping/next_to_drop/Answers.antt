-- Where all numbers together are none, each is.
use Rattle.std.proofs.Common.{slice_index_or, sym, ◌∙◌}
use Rattle.records.proofs.Totals.{all_none}
use Rattle.records.specs.Records.{no_record}
use Rattle.record_store.proofs.dropping.next_to_drop.Goals as goal

pub returns-then-total-eq0-clause-others : goal.returns-then-total-eq0-clause-others
returns-then-total-eq0-clause-others g c i _ _ =
    all_none c.args.numbers.now (sym c.requires.total ∙ c.if-total-eq0.true) (slice_index_or (g.M.RecordMemory.records c.args.memory.now) i no_record).key

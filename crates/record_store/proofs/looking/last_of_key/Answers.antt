-- The last one of the key.
use Rattle.std.proofs.Common.{None, ap, sym, ◌∙◌, arith}
use Rattle.std.specs.List.{last_or}
use Rattle.records.proofs.Finding.{last_found}
use Rattle.record_store.proofs.looking.last_of_key.Goals as goal

pub returns-then-record-key : goal.returns-then-record-key
returns-then-record-key g c =
    let at = c.loop-place in
    sym (last_found c.args.key at.place _ c.at-record.result c.loop-place-test.true (omega (arith, at.auto.place, c.requires)) c.at-record.ensures c.if-record-key.true)
    ∙ ap (last_or None) at.invariant

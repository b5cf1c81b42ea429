-- Every table's memory holds what the table means.
use Rattle.std.proofs.Common.{◌≤◌, length, arith}
use Rattle.records.proofs.Capacities.{room_le}
use Rattle.records.proofs.Holding.{holds_versions}
use Rattle.records.proofs.SliceLaws.{lies_in}
use Rattle.records.specs.Slices.{LiesIn, is_table_size}
use Rattle.record_store.specs.Tables.{table_meaning}
use Rattle.record_store.proofs.Laying.{laid_in_fit}
use Rattle.record_store.proofs.table.«RecordStore+mut+slice+Record».records.Goals as goal

pub returns-clause-laid : goal.returns-clause-laid
returns-clause-laid c =
    let s = c.args.self.now in
    let mem = s.memory.now in
    let within : s.kept ≤ length mem = omega (arith, s.within, room_le (is_table_size (length mem)) (length mem)) in
    laid_in_fit (is_table_size (length mem)) (table_meaning mem s.kept s.last) mem mem
    (holds_versions (λ xs. 0) (λ xs. xs) (λ xs. is_table_size (length xs)) (λ xs. xs) LiesIn mem s.kept s.last s.sound (λ fit. lies_in mem s.kept within (s.tidy fit)))

-- Over unfit memory every key has its first version.
use Rattle.std.proofs.Common.{◌≡◌, false, length, take, sym, ap, ◌∙◌, rules}
use Rattle.store.specs.Meaning.{newest_at}
use Rattle.records.specs.Layouts.{records_meaning}
use Rattle.record_store.proofs.Commits.{unfit_newest}
use Rattle.record_store.proofs.stores.RecordStore.newest.Goals as goal

pub returns-else-is_fit : goal.returns-else-is_fit
returns-else-is_fit g c key =
    let s = c.args.self.now in
    let size = length (g.M.RecordMemory.records s.memory) in
    let rs = take s.kept (g.M.RecordMemory.records s.memory) in
    let unfit : g.M.RecordMemory.fit s.memory ≡ false = search rules in
    unfit_newest size rs s.last c.args.key c.args.time key
    ∙ ap (λ b. newest_at c.args.time s.last ((records_meaning b size rs s.last).kept c.args.key)) (sym unfit)

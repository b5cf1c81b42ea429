-- Over unfit memory nothing is outdated.
use Rattle.std.proofs.Common.{◌≡◌, false, min, length, take, ap, sym, ◌∙◌, rules}
use Rattle.store.specs.Meaning.{after_prune}
use Rattle.records.specs.Layouts.{records_meaning}
use Rattle.record_store.proofs.Commits.{unfit_pruned}
use Rattle.record_store.proofs.stores.RecordStoreStore.prune.Goals as goal

pub returns-else-is_fit-clause-after : goal.returns-else-is_fit-clause-after
returns-else-is_fit-clause-after g c =
    let s = c.args.self.now in
    let size = length (g.M.RecordMemory.records s.memory) in
    let rs = take s.kept (g.M.RecordMemory.records s.memory) in
    let unfit : g.M.RecordMemory.fit s.memory ≡ false = search rules in
    ap (λ b. records_meaning b size rs s.last) unfit
    ∙ unfit_pruned (min c.args.horizon s.last) size s.last rs
    ∙ ap (λ b. after_prune c.args.horizon (records_meaning b size rs s.last)) (sym unfit)

use Rattle.std.proofs.Common.{ap, ◌∙◌}
use Rattle.snapshot.specs.Intervals.{from_to}
use Rattle.snapshot.specs.Limits.{open_end}
use Rattle.engine_model.specs.Engines as model
use Rattle.engine.proofs.ChainLemmas.{none_opened}
use Rattle.engine.specs.Workers.{worker_number}
use Rattle.engine.proofs.chain.Chain.restart.Goals as goal

pub returns : goal.returns
returns c =
    c.open.ensures.after
    ∙ ap (model.open_leg _) (none_opened c.args.self.now.legs c.clear.new.self c.clear.ensures)
    ∙ ap
    (λ ws. model.open_leg (record { worker = worker_number c.args.worker; interval = from_to 0 open_end; writes = ws }) model.no_legs)
    c.new.ensures

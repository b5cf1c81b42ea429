-- What an engine's list of notices means in the model.
use Rattle.engine_model.specs.Engines as model
use Rattle.engine_parts.specs.Lists.{elements_of}
use Rattle.engine_parts.specs.declared.notices.Notices.{Notices}

-- the notices that wait, and how many were lost
abbrev pub notices_of : Notices → model.Notices
notices_of n = record { waiting = elements_of n.waiting; lost = n.lost }

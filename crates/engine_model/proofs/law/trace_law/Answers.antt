-- The law is proved from the laws of its parts.
use Rattle.engine_model.proofs.CacheShapeProofs.{cache_shape}
use Rattle.engine_model.proofs.TraceProofs.{rests_on_laws, the_rules_lawful, timestamps_in_every_trace}
use Rattle.engine_model.proofs.ShapedTraces.{shaped_in_every_trace}
use Rattle.engine_model.proofs.StoreRefusalProofs.{refusals_in_every_trace}
use Rattle.engine_model.proofs.ReplyProofs.{replies_in_every_trace}
use Rattle.engine_model.proofs.law.trace_law.Goals as goal

pub returns-clause-lawful : goal.returns-clause-lawful
returns-clause-lawful c = the_rules_lawful

pub returns-clause-rests : goal.returns-clause-rests
returns-clause-rests c = rests_on_laws

pub returns-clause-timestamps : goal.returns-clause-timestamps
returns-clause-timestamps c = timestamps_in_every_trace

pub returns-clause-caches : goal.returns-clause-caches
returns-clause-caches c = cache_shape

pub returns-clause-shaped : goal.returns-clause-shaped
returns-clause-shaped c = shaped_in_every_trace

pub returns-clause-refusals : goal.returns-clause-refusals
returns-clause-refusals c = refusals_in_every_trace

pub returns-clause-replies : goal.returns-clause-replies
returns-clause-replies c = replies_in_every_trace

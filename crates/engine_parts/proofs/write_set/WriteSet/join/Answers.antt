use Rattle.std.proofs.lemmas.Result.{err_from_is_err_and}
use Rattle.engine_model.specs.WriteSets.{united}
use Rattle.engine_parts.specs.WriteSets.{writes_of}
use Rattle.engine_parts.proofs.WriteSetLemmas.{join_refused, join_done}
use Rattle.engine_parts.proofs.write_set.WriteSet.join.Goals as goal

pub returns-in_err-write : goal.returns-in_err-write
returns-in_err-write c =
    let all = united (writes_of c.args.self.now) (writes_of c.args.later.now) in
    let failed = err_from_is_err_and c.from_residual.result c.from_residual.ensures.1 in
    let refused = join_refused (writes_of c.loop-write.both) c.as_slice-write-items.result.now all c.loop-write.write-index c.loop-write.invariant.left _ c.in_err-write.field-0.0 c.loop-write-test.true c.in_err-write.ensures.answer in
    rw (failed.1, failed.2) refused

pub returns : goal.returns
returns c =
    let both = c.loop-write.both in
    let all = united (writes_of c.args.self.now) (writes_of c.args.later.now) in
    join_done (writes_of both) c.as_slice-write-items.result.now all c.loop-write.write-index c.loop-write.invariant.left c.loop-write-test.false c.loop-write.invariant.fits

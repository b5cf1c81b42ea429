use Rattle.std.proofs.Common.{◌<◌, length, arith}
use Rattle.std.proofs.lemmas.Bool.Decides.{nat_tests}
use Rattle.engine.proofs.CacheLemmas.{notified_worker}
use Rattle.engine.proofs.state.notify.Goals as goal

pub returns-then-is_worker : goal.returns-then-is_worker
returns-then-is_worker c =
    let caches = c.args.caches.now in
    let within : c.args.notice.worker < length caches = grind (arith, nat_tests) in
    notified_worker c.args.notice caches c.index-caches-notice.result c.take_notice.new.self within c.take_notice.ensures

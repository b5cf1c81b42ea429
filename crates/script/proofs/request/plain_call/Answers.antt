-- The word is the arm's.
use Rattle.std.proofs.Common.{rules, ◌≡◌, codes, arith}
use Rattle.std.proofs.lemmas.Slice.Eq.{text_from_reads}
use Rattle.script.proofs.request.plain_call.Goals as goal

pub returns-in-abandon : goal.returns-in-abandon
returns-in-abandon c =
    let e : c.args.word.now ≡ codes "abandon" = text_from_reads c.args.word.now (codes "abandon") (omega arith) (search rules) in
    rw e c.abandon.ensures

pub returns-in-deliver : goal.returns-in-deliver
returns-in-deliver c =
    let e : c.args.word.now ≡ codes "deliver" = text_from_reads c.args.word.now (codes "deliver") (omega arith) (search rules) in
    rw e c.deliver.ensures

pub returns-in-discard : goal.returns-in-discard
returns-in-discard c =
    let e : c.args.word.now ≡ codes "discard" = text_from_reads c.args.word.now (codes "discard") (omega arith) (search rules) in
    rw e c.discard.ensures

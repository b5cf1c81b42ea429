use Rattle.std.proofs.Common.{◌≡◌, true, false, [], ◌∷◌, ◌++◌, length, slice_index_or, slice_set, sym, ap, ◌∙◌, rules, arith}
use Rattle.std.proofs.lemmas.Bool.Decides.{nat_tests}
use Rattle.engine_parts.proofs.KeyLemmas.{noted_more, not_noted}
use Rattle.engine_parts.specs.KeysRead.{reads_key}
use Rattle.engine_parts.specs.Lists.{elements_of}
use Rattle.engine_parts.proofs.readings.Readings.push.Goals as goal

pub invariant_of-self-then-is_key : goal.invariant_of-self-then-is_key
invariant_of-self-then-is_key c k within e =
    let list = elements_of c.self.inside.list in
    let pushed : c.push.result ≡ true = search rules in
    let after : elements_of c.push.new.self ≡ list ++ c.args.reading ∷ [] = grind (arith, nat_tests, pushed, c.push.ensures.after) in
    let size : length c.self.inside.read ≡ 64 = search (rules, arith) in
    ap (λ i. slice_index_or (slice_set c.self.inside.read i true) k false) c.from.ensures
    ∙ noted_more c.self.inside.read list c.args.reading size c.self.invariant k within (ap (reads_key k) (sym after) ∙ e)

pub invariant_of-self-else-is_key : goal.invariant_of-self-else-is_key
invariant_of-self-else-is_key c k within e =
    let list = elements_of c.self.inside.list in
    let pushed : c.push.result ≡ true = search rules in
    let after : elements_of c.push.new.self ≡ list ++ c.args.reading ∷ [] = grind (arith, nat_tests, pushed, c.push.ensures.after) in
    not_noted c.self.inside.read list c.args.reading (λ lt. grind (arith, nat_tests, c.is_key.ensures, c.if-is_key.false, lt)) c.self.invariant k within
    (ap (reads_key k) (sym after) ∙ e)

use Rattle.std.proofs.Common.{◌≡◌, ◌<◌, true, [], ◌∷◌, ◌++◌, ◌==◌, length, ap, ◌∙◌, rules, arith}
use Rattle.std.proofs.lemmas.Bool.Decides.{nat_tests}
use Rattle.std.proofs.lemmas.Bool.{cond-false}
use Rattle.std.proofs.lemmas.List.{length-drop}
use Rattle.engine_parts.proofs.CountLemmas.{few, one_more, recounted}
use Rattle.engine_parts.specs.Caches.{cache_of, entries_of_key}
use Rattle.engine_parts.specs.Lists.{elements_of}
use Rattle.engine_parts.proofs.cache.Cache.add_latest.Goals as goal
use Rattle.engine_parts.proofs.cache.Cache.add_latest.Goals.{then-is_full, else-is_full}

room : (c : goal.After-self-1) → length (elements_of c.self-2.inside.entries) < 8
room c =
    let is = ap (λ v. length (cache_of v)) c.self-2.view_is in
    elim c.if-is_full.branch [
      | then-is_full w ↦
          let dropped = ap (λ v. length (cache_of v)) w.self-is in
          let fewer = ap length w.drop_first.ensures in
          let before = ap (λ v. length (cache_of v)) c.self.view_is in
          let fits = c.is_full.ensures.fits in
          grind (arith, nat_tests, is, dropped, fewer, before, fits, length-drop 1 (cache_of c.args.self.now))
      | else-is_full w ↦
          let same = ap (λ v. length (cache_of v)) w.self-is in
          let before = ap (λ v. length (cache_of v)) c.self.view_is in
          grind (arith, nat_tests, is, same, before, c.is_full.ensures.value, w.if-is_full.false)
    ]

pub overflow_add-self : goal.overflow_add-self
overflow_add-self c =
    let entries = elements_of c.self-2.inside.entries in
    let within : c.from.result < 256 = search (rules, arith) in
    let counted = c.self-2.invariant c.from.result within in
    let most = few c.from.result entries in
    let free = room c in
    grind (arith, nat_tests, counted, most, free)

pub invariant_of-self : goal.invariant_of-self
invariant_of-self c =
    let k = c.args.entry.key in
    let entries = elements_of c.self-2.inside.entries in
    let free = room c in
    let pushed : c.push.result ≡ true = grind (arith, nat_tests, free, c.push.ensures.room) in
    let after : elements_of c.push.new.self ≡ entries ++ c.args.entry ∷ [] = grind (arith, nat_tests, pushed, c.push.ensures.after) in
    let within : c.from.result < 256 = search (rules, arith) in
    let counted = c.self-2.invariant c.from.result within in
    let from = c.from.ensures in
    recounted c.self-2.inside.counts entries (elements_of c.push.new.self) c.from.result _ c.self-2.told c.self-2.invariant
    (grind (arith, nat_tests, counted, from, ap (entries_of_key c.from.result) after, one_more c.from.result entries c.args.entry))
    (λ j ne.
    ap (entries_of_key j) after
    ∙ one_more j entries c.args.entry
    ∙ cond-false (c.args.entry.key == j) _ _ (grind (arith, nat_tests, from, ne)))

use Rattle.std.proofs.Common.{◌≡◌, true, ap, sym, ◌∙◌, rules, arith}
use Rattle.std.proofs.lemmas.Bool.Decides.{nat_tests}
use Rattle.engine_model.specs.Caches.{holds, without}
use Rattle.engine_parts.proofs.CacheLemmas.{nothing_out}
use Rattle.engine_parts.proofs.CountLemmas.{none_out, out_at, one_less, others_stay, recounted}
use Rattle.engine_parts.specs.Caches.{cache_of, entries_of_key}
use Rattle.engine_parts.specs.Lists.{elements_of}
use Rattle.engine_parts.proofs.cache.Cache.take_out.Goals as goal

pub returns-then-not-holds : goal.returns-then-not-holds
returns-then-not-holds c = sym (none_out c.args.key (cache_of c.args.self.now) (search rules))

pub returns-in_default : goal.returns-in_default
returns-in_default c =
    sym (nothing_out c.args.key (cache_of c.args.self.now) (search rules))

pub overflow_sub-self : goal.overflow_sub-self
overflow_sub-self c =
    let k = c.args.key in
    let entries = elements_of c.self.inside.entries in
    let held : holds k entries ≡ true = search rules in
    let counted = c.self.invariant k (omega arith) in
    let less = one_less k entries held in
    let from = c.from.ensures in
    grind (arith, nat_tests, counted, less, from)

pub invariant_of-self : goal.invariant_of-self
invariant_of-self c =
    let k = c.args.key in
    let entries = elements_of c.self.inside.entries in
    let after = elements_of c.remove.new.self in
    let held : holds k entries ≡ true = search rules in
    let counted = c.self.invariant k (omega arith) in
    let less = one_less k entries held in
    let from = c.from.ensures in
    let found : after ≡ without k entries = search (rules, out_at) in
    recounted c.self.inside.counts entries after c.from.result _ (search rules) c.self.invariant
    (grind (arith, nat_tests, counted, less, from, found)) (λ j ne. ap (entries_of_key j) found ∙ others_stay k j entries (grind (arith, nat_tests, from, ne)))

pub returns-in-Some : goal.returns-in-Some
returns-in-Some c =
    let k = c.args.key in
    let entries = elements_of c.self.inside.entries in
    let found : elements_of c.remove.new.self ≡ without k entries = search (rules, out_at) in
    found ∙ ap (λ v. without k (cache_of v)) c.self.view_is

use Rattle.std.proofs.Common.{arith, ◌<◌, length, slice_get, slice_set, Some, ap, sym, ◌∙◌, ◌≡◌, rules}
use Rattle.std.proofs.lemmas.Bool.Decides.{nat_tests}
use Rattle.std.proofs.lemmas.Option.{slice_get-get_or}
use Rattle.engine_model.specs.Caches.{entry_of, with_notice}
use Rattle.engine_parts.proofs.CacheLemmas.{place_of_entry, notified_at}
use Rattle.engine_parts.proofs.CountLemmas.{same_key}
use Rattle.engine_parts.specs.Caches.{cache_of, entries_of_key}
use Rattle.engine_parts.specs.Lists.{elements_of}
use Rattle.engine_parts.proofs.cache.Cache.take_notice.Goals as goal

pub invariant_of-self : goal.invariant_of-self
invariant_of-self c k within =
    c.self.invariant k within
    ∙ sym (same_key k (elements_of c.self.inside.entries) c.in-Some.place c.in-Some-get.field-0 _ (sym c.get.ensures ∙ c.in-Some-get.is))
    ∙ ap (entries_of_key k) (sym c.put.ensures)

pub returns-in-Some-get : goal.returns-in-Some-get
returns-in-Some-get c =
    let n = c.args.notice in
    let entries = elements_of c.self.inside.entries in
    let place : place_of_entry n.key entries ≡ Some c.in-Some.place =
    ap (place_of_entry n.key) (sym c.as_slice.ensures.value) ∙ sym c.find.ensures.value ∙ c.in-Some.is in
    let there : slice_get entries c.in-Some.place ≡ Some c.in-Some-get.field-0 = sym c.get.ensures ∙ c.in-Some-get.is in
    c.put.ensures
    ∙ ap (λ r. slice_set entries c.in-Some.place (entry_of c.in-Some-get.field-0.key r)) c.noticed-reading.ensures
    ∙ notified_at n entries c.in-Some.place c.in-Some-get.field-0 place there
    ∙ ap (λ v. with_notice n (cache_of v)) c.self.view_is

pub returns-in_default-get : goal.returns-in_default-get
returns-in_default-get c =
    let entries = elements_of c.self.inside.entries in
    let there : c.in-Some.place < length entries = search (rules, arith) in
    absurd (grind (arith, nat_tests, c.get.ensures, c.in_default-get.is, slice_get-get_or entries c.in-Some.place record { key = 0; reading = record { value = 0; timestamp = 0; promise = 0 } } there))

-- A read that goes further than its leg: what it answers, and what it leaves of the chain and of the caches.
use Rattle.snapshot.specs.Intervals.{narrowed}
use Rattle.std.proofs.Common.{◌≡◌, ℕ, ltb, true, Some, None, Ok, Err, Result, length, refl, sym, ap, ◌∙◌}
use Rattle.snapshot.specs.Refusals.{around_store}
use Rattle.snapshot.specs.declared.account.Reading.{Reading}
use Rattle.snapshot.specs.declared.fault.EngineFault.{EngineFault}
use Rattle.snapshot.specs.declared.fault.Fault.{Fault}
use Rattle.store.specs.Meaning.{Meaning, written_to}
use Rattle.engine_model.specs.Caches.{Cache}
use Rattle.engine_model.specs.Engines as model
use Rattle.engine_model.specs.Steps.{after_reading, own_reading}
use Rattle.engine_model.specs.Updates.{with_at}
use Rattle.engine.specs.ChainCalls.{further_reading, after_further_read, after_read}
use Rattle.engine.specs.Legs.{open_in}
use Rattle.engine.specs.declared.named.Named.{Named}

-- neither the write set nor a reading of the leg answers, and the chain has room for a reading
pub record Further (n : Named) (c : model.Chain) (leg : model.OpenLeg) : Type 0 where
  pub open_leg : open_in (c.legs n.leg) ≡ Some leg
  pub not_written : written_to n.key leg.writes ≡ None
  pub not_read : own_reading n.leg n.key c.readings ≡ None
  pub room : ltb (length c.readings) 32 ≡ true

goes_further :
    (n : Named) (m : Meaning) (c : model.Chain) (caches : ℕ → Cache) (leg : model.OpenLeg) → Further n c leg →
    after_read n m (c, caches) ≡ after_further_read n m leg (c, caches)
goes_further n m c caches leg h = rw (h.open_leg, h.not_written, h.not_read, h.room) refl

pub read_answered :
    (n : Named) (m : Meaning) (c : model.Chain) (caches : ℕ → Cache) (leg : model.OpenLeg) → Further n c leg →
    (r : Reading) (cache : Cache) → further_reading m leg.interval n.key (caches leg.worker) ≡ (Ok r, cache) →
    (after : model.Chain) (caches_after : ℕ → Cache) → after ≡ after_reading narrowed n.leg n.key leg r c →
    caches_after ≡ with_at leg.worker cache caches → (Ok r.value, (after, caches_after)) ≡ after_read n m (c, caches)
read_answered n m c caches leg h r cache looked after caches_after e f =
    let P : model.Chain → (ℕ → Cache) → Result ℕ EngineFault × (model.Chain × (ℕ → Cache)) = λ x y. (Ok r.value, (x, y)) in
    ap (λ x. P x caches_after) e
    ∙ ap (P (after_reading narrowed n.leg n.key leg r c)) f
    ∙ sym (goes_further n m c caches leg h ∙ rw looked refl)

pub read_refused :
    (n : Named) (m : Meaning) (c : model.Chain) (caches : ℕ → Cache) (leg : model.OpenLeg) → Further n c leg →
    (f : Fault) (cache : Cache) → further_reading m leg.interval n.key (caches leg.worker) ≡ (Err f, cache) →
    (Err (around_store f n.place n.leg n.key), (c, caches)) ≡ after_read n m (c, caches)
read_refused n m c caches leg h f cache looked = sym (goes_further n m c caches leg h ∙ rw looked refl)

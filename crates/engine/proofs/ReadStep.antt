-- A read: what it makes of its chain and of the caches is the step of the engine with these in their place.
use Rattle.snapshot.specs.Intervals.{narrowed}
use Rattle.std.proofs.Common.{◌≡◌, ℕ, true, ◌&&◌, Some, Ok, Err, Result, refl, ap, ◌∙◌}
use Rattle.snapshot.specs.Limits.{is_key, is_place, is_leg}
use Rattle.snapshot.specs.Refusals.{around_store}
use Rattle.snapshot.specs.declared.account.Reading.{Reading}
use Rattle.snapshot.specs.declared.fault.EngineFault.{EngineFault}
use Rattle.snapshot.specs.declared.fault.Fault.{Fault}
use Rattle.store.specs.Meaning.{version_answer, written_to}
use Rattle.engine_model.specs.Caches.{Cache, answering}
use Rattle.engine_model.specs.Engines.{OpenLeg, Chain, Engine}
use Rattle.engine_model.specs.Steps.{after_reading, StepOutcome, refused, accepted, own_reading}
use Rattle.engine_model.specs.Updates.{with_at}
use Rattle.engine_model.specs.declared.calls.Call.TheVariants as call
use Rattle.engine.specs.ChainCalls.{after_read}
use Rattle.engine.specs.Legs.{on_result}
use Rattle.engine.specs.StepOf.{answer_and_engine, step_of}
use Rattle.engine.specs.Naming.{naming}
use Rattle.engine.specs.declared.named.Named.{Named}
use Rattle.engine.proofs.ChainSteps.{WithEngine, stays}
use Rattle.engine.proofs.BothSides.{both_check, both_open, both_else, both_result, where_passed, where_leg}

-- an answer, and the chain and the caches after it
abbrev pub WithCaches : Type 0
WithCaches = Result ℕ EngineFault × (Chain × (ℕ → Cache))

-- the engine with a chain at a place, and with these caches
abbrev pub with_caches : Engine → ℕ → Chain × (ℕ → Cache) → Engine
with_caches s p made =
    record { places = with_at p (Some made.0) s.places; caches = made.1; notices = s.notices; store = s.store }

-- the same answer, and that engine
abbrev pub read_placed : Engine → ℕ → WithCaches → WithEngine ℕ
read_placed s p made = (made.0, with_caches s p made.1)

abbrev ReadPlaced : Engine → ℕ → WithCaches → StepOutcome ℕ → Type 0
ReadPlaced s p made o = read_placed s p made ≡ answer_and_engine s o

-- an answer from the cache or the store is noted
abbrev answer_noted : Named → OpenLeg → Chain → (ℕ → Cache) → Result Reading Fault × Cache → WithCaches
answer_noted n leg c caches queried =
    on_result queried.0
    (λ f. (Err (around_store f n.place n.leg n.key), (c, caches)))
    (λ r. (Ok r.value, (after_reading narrowed n.leg n.key leg r c, with_at leg.worker queried.1 caches)))

read_made :
    (depth p l k : ℕ) (s : Engine) (c : Chain) → (is_place p && is_leg l && is_key k) ≡ true → s.places p ≡ Some c →
    read_placed s p (after_read (naming p l k) s.store (c, s.caches)) ≡ step_of depth (call.Read p l k) s
read_made depth p l k s c range here =
    let n : Named = naming p l k in
    let P : WithCaches → StepOutcome ℕ → Type 0 = ReadPlaced s p in
    let made : WithCaches = after_read n s.store (c, s.caches) in
    let no_change : (f : EngineFault) → P (Err f, (c, s.caches)) (refused f) = λ f. ap (λ t. (Err f, t)) (stays s p c here) in
    let known : (x : ℕ) → P (Ok x, (c, s.caches)) (accepted x s) = λ x. ap (λ t. (Ok x, t)) (stays s p c here) in
    let of : WithCaches → WithCaches = λ m. m in
    where_passed (P made) _ _ _ range
    (where_leg (P made) _ l _ _ c here
    (both_open P (c.legs l) _ _ _ _ (no_change _) (λ leg.
    both_else P of (written_to k leg.writes) _ _ _ _ (λ x. known x)
    (both_else P of (own_reading l k c.readings) _ _ _ _ (λ r. known _)
    (both_check P _ _ _ _ _ (no_change _)
    (let queried : Result Reading Fault × Cache → WithCaches = answer_noted n leg c s.caches in
    both_else P queried (answering leg.interval k (s.caches leg.worker)) _ _ _ _ (λ e. refl)
    (both_result P queried (version_answer s.store k leg.interval.high) _ _ _ _ (λ f. no_change _) (λ r. refl))))))))

pub read_is_step :
    (depth p l k : ℕ) (s : Engine) (c : Chain) → (is_place p && is_leg l && is_key k) ≡ true → s.places p ≡ Some c →
    (r : Result ℕ EngineFault) (c' : Chain) (caches' : ℕ → Cache) →
    ◌≡◌ {A = WithCaches} (r, (c', caches')) (after_read (naming p l k) s.store (c, s.caches)) →
    ◌≡◌ {A = WithEngine ℕ} (r, with_caches s p (c', caches')) (step_of depth (call.Read p l k) s)
read_is_step depth p l k s c range here r c' caches' so = ap (read_placed s p) so ∙ read_made depth p l k s c range here

-- A call that names a chain: what it makes of that chain is the step of the engine with the chain in its place.
use Rattle.std.proofs.Common.{◌≡◌, ℕ, true, ◌&&◌, ◌==◌, Some, Ok, Err, Result, refl, sym, ap, ◌∙◌}
use Rattle.snapshot.specs.Intervals.{joined_or_refused}
use Rattle.snapshot.specs.Limits.{is_key, is_worker, is_place, is_leg}
use Rattle.snapshot.specs.Refusals.{not_named}
use Rattle.snapshot.specs.declared.fault.EngineFault.{EngineFault}
use Rattle.snapshot.specs.declared.fault.Refusal.{Refusal}
use Rattle.engine_model.specs.Engines.{OpenLeg, Chain, end_leg, open_leg, Engine, with_place}
use Rattle.engine_model.specs.Steps.{StepOutcome, refused}
use Rattle.engine_model.specs.WriteSets.{with_write, united}
use Rattle.engine_model.specs.declared.calls.Call.TheVariants as call
use Rattle.engine_model.proofs.Updates.{at_same_value}
use Rattle.engine.specs.Legs.{on_result}
use Rattle.engine.specs.ChainCalls.{refused_with, after_hand, after_fork, after_join, after_write}
use Rattle.engine.specs.StepOf.{answer_and_engine, step_of}
use Rattle.engine.specs.Naming.{naming}
use Rattle.engine.specs.declared.named.Named.{Named}
use Rattle.engine.proofs.BothSides.{both_check, both_check_not, both_open, both_result, both_fit, where_passed, where_leg}

-- What a chain's change is to the engine.

-- the chain that stands at a place, put there, changes nothing
pub stays : (s : Engine) (p : ℕ) (c : Chain) → s.places p ≡ Some c → with_place p (Some c) s ≡ s
stays s p c here =
    ap
    (λ f. record { places = f; caches = s.caches; notices = s.notices; store = s.store })
    (at_same_value p (Some c) s.places (sym here))

-- an answer, and the chain or the engine after it
abbrev pub WithChain : Type 0 → Type 0
WithChain X = Result X EngineFault × Chain

abbrev pub WithEngine : Type 0 → Type 0
WithEngine X = Result X EngineFault × Engine

-- the same answer, and the engine with the chain at a place
abbrev placed : {X : Type 0} → Engine → ℕ → WithChain X → WithEngine X
placed s p made = (made.0, with_place p (Some made.1) s)

-- whatever answer and chain are what is made of a chain, that answer and the engine with that chain are the step's
abbrev pub IsStepOf : {X : Type 0} → Engine → ℕ → WithChain X → WithEngine X → Type 0
IsStepOf {X} s p made step =
    (r : Result X EngineFault) (c : Chain) → ◌≡◌ {A = WithChain X} (r, c) made →
    ◌≡◌ {A = WithEngine X} (r, with_place p (Some c) s) step

by_placing : {X : Type 0} (s : Engine) (p : ℕ) (made : WithChain X) (step : WithEngine X) → placed s p made ≡ step → IsStepOf s p made step
by_placing s p made step same r c so = ap (placed s p) so ∙ same

-- the same of what a step comes to
abbrev Placed : {X : Type 0} → Engine → ℕ → WithChain X → StepOutcome X → Type 0
Placed s p made o = placed s p made ≡ answer_and_engine s o

unchanged :
    {X : Type 0} (s : Engine) (p : ℕ) (c : Chain) → s.places p ≡ Some c → (f : EngineFault) →
    Placed {X = X} s p (Err f, c) (refused f)
unchanged s p c here f = ap (λ t. (Err f, t)) (stays s p c here)

-- The calls.

pub hand_is_step :
    (depth p l w : ℕ) (s : Engine) (c : Chain) → (is_place p && is_leg l && is_worker w) ≡ true → s.places p ≡ Some c →
    IsStepOf s p (after_hand (naming p l not_named) w c) (step_of depth (call.Hand p l w) s)
hand_is_step depth p l w s c range here =
    let P : WithChain ℕ → StepOutcome ℕ → Type 0 = Placed s p in
    let same : (f : EngineFault) → P (Err f, c) (refused f) = unchanged s p c here in
    let made : WithChain ℕ = after_hand (naming p l not_named) w c in
    by_placing s p made _
    (where_passed (P made) _ _ _ range
    (where_leg (P made) _ l _ _ c here
    (both_open P (c.legs l) _ _ _ _ (same _) (λ leg.
    both_check P _ _ _ _ _ (same _) refl))))

pub fork_is_step :
    (depth p l w v : ℕ) (s : Engine) (c : Chain) → (is_place p && is_leg l && is_worker w && is_worker v) ≡ true →
    s.places p ≡ Some c → IsStepOf s p (after_fork (naming p l not_named) w v c) (step_of depth (call.Fork p l w v) s)
fork_is_step depth p l w v s c range here =
    let P : WithChain (ℕ × ℕ) → StepOutcome (ℕ × ℕ) → Type 0 = Placed s p in
    let same : (f : EngineFault) → P (Err f, c) (refused f) = unchanged s p c here in
    let made : WithChain (ℕ × ℕ) = after_fork (naming p l not_named) w v c in
    by_placing s p made _
    (where_passed (P made) _ _ _ range
    (where_leg (P made) _ l _ _ c here
    (both_open P (c.legs l) _ _ _ _ (same _) (λ leg.
    both_check P _ _ _ _ _ (same _) refl))))

pub join_is_step :
    (depth p l j w : ℕ) (s : Engine) (c : Chain) → (is_place p && is_leg l && is_leg j && is_worker w) ≡ true →
    s.places p ≡ Some c → IsStepOf s p (after_join (naming p l not_named) j w c) (step_of depth (call.Join p l j w) s)
join_is_step depth p l j w s c range here =
    let P : WithChain ℕ → StepOutcome ℕ → Type 0 = Placed s p in
    let same : (f : EngineFault) → P (Err f, c) (refused f) = unchanged s p c here in
    let n : Named = naming p l not_named in
    let made : WithChain ℕ = after_join n j w c in
    let of : Result OpenLeg Refusal → WithChain ℕ =
    λ r. on_result r (refused_with n c) (λ both. (Ok c.opened, open_leg both (end_leg j (end_leg l c)))) in
    by_placing s p made _
    (where_passed (P made) _ _ _ range
    (where_leg (P made) _ l _ _ c here
    (both_open P (c.legs l) _ _ _ _ (same _) (λ leg.
    both_open P (c.legs j) _ _ _ _ (same _) (λ other.
    both_check_not P (l == j) _ _ _ _ (same _)
    (both_check P _ _ _ _ _ (same _)
    (both_result P of (joined_or_refused leg.interval other.interval) _ _ _ _ (λ e. same _) (λ i.
    both_fit P of (united leg.writes other.writes) _ _ _ _ (same _) refl))))))))

pub write_is_step :
    (depth p l k x : ℕ) (s : Engine) (c : Chain) → (is_place p && is_leg l && is_key k) ≡ true → s.places p ≡ Some c →
    IsStepOf s p (after_write (naming p l k) x c) (step_of depth (call.Write p l k x) s)
write_is_step depth p l k x s c range here =
    let P : WithChain (Unit {0}) → StepOutcome (Unit {0}) → Type 0 = Placed s p in
    let same : (f : EngineFault) → P (Err f, c) (refused f) = unchanged s p c here in
    let made : WithChain (Unit {0}) = after_write (naming p l k) x c in
    let of : WithChain (Unit {0}) → WithChain (Unit {0}) = λ m. m in
    by_placing s p made _
    (where_passed (P made) _ _ _ range
    (where_leg (P made) _ l _ _ c here
    (both_open P (c.legs l) _ _ _ _ (same _) (λ leg.
    both_fit P of (with_write (record { key = k; value = x }) leg.writes) _ _ _ _ (same _) refl))))

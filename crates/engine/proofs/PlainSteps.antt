-- Calls that are refused before they ask their chain, and calls that ask none: their answer, and the engine after it, are
-- those of the step.
use Rattle.std.proofs.Common.{◌≡◌, ℕ, Bool, true, false, ◌&&◌, Some, None, Ok, Err, Option, Result, refl, ap}
use Rattle.snapshot.specs.Limits.{is_worker, is_place}
use Rattle.snapshot.specs.Refusals.{not_named}
use Rattle.snapshot.specs.declared.fault.EngineFault.{EngineFault}
use Rattle.snapshot.specs.declared.fault.Refusal.TheVariants.{PlaceOccupied}
use Rattle.store.specs.Meaning.{Meaning, after_prune}
use Rattle.engine_model.specs.Engines.{OpenLeg, Chain, new_chain, Engine, with_place, with_store}
use Rattle.engine_model.specs.Steps.{StepOutcome, check, with_chain, with_open_leg, if_free, chain_fault}
use Rattle.engine_model.specs.declared.calls.Call.TheVariants as call
use Rattle.engine.specs.StepOf.{answer_and_engine, step_of}
use Rattle.engine.proofs.ChainSteps.{WithEngine}

-- this answer, and this engine after it, are what comes of a call
abbrev pub ComesTo : {X : Type 0} → Engine → Result X EngineFault → Engine → StepOutcome X → Type 0
ComesTo {X} s answer after o = ◌≡◌ {A = WithEngine X} (answer, after) (answer_and_engine s o)

-- Refusals at the head of a call. They fit each call that begins with these checks.

-- a number out of range
pub out_of_range :
    {X : Type 0} (ok : Bool) (f : EngineFault) (next : StepOutcome X) (s : Engine) → ok ≡ false →
    ComesTo s (Err f) s (check ok f next)
unfolding check
out_of_range ok f next s failed = rw failed refl

-- no chain at the place, in a call that names a leg
pub no_chain :
    {X : Type 0} (ok : Bool) (f : EngineFault) (o : Option Chain) (l : ℕ) (g : EngineFault)
    (next : Chain → OpenLeg → StepOutcome X) (s : Engine) → ok ≡ true → o ≡ None →
    ComesTo s (Err g) s (check ok f (with_open_leg o l g next))
unfolding check with_open_leg with_chain
no_chain {X} ok f o l g next s passed none = rw (passed, none) refl

-- no chain at the place, in a call that names none of its legs
pub no_chain_at_all :
    {X : Type 0} (ok : Bool) (f : EngineFault) (o : Option Chain) (g : EngineFault) (next : Chain → StepOutcome X) (s : Engine) →
    ok ≡ true → o ≡ None → ComesTo s (Err g) s (check ok f (with_chain o g next))
unfolding check with_chain
no_chain_at_all {X} ok f o g next s passed none = rw (passed, none) refl

-- Begin and abandon.

pub begin_is_step :
    (depth p w : ℕ) (s : Engine) → (is_place p && is_worker w) ≡ true → s.places p ≡ None →
    ◌≡◌ {A = WithEngine ℕ} (Ok 0, with_place p (Some (new_chain w)) s) (step_of depth (call.Begin p w) s)
unfolding check if_free
begin_is_step depth p w s range free = rw (range, free) refl

pub begin_is_refused :
    (depth p w : ℕ) (s : Engine) (c : Chain) → (is_place p && is_worker w) ≡ true → s.places p ≡ Some c →
    ◌≡◌ {A = WithEngine ℕ} (Err (chain_fault p not_named not_named PlaceOccupied), s) (step_of depth (call.Begin p w) s)
unfolding check if_free
begin_is_refused depth p w s c range here = rw (range, here) refl

pub abandon_is_step :
    (depth p : ℕ) (s : Engine) (c : Chain) → is_place p ≡ true → s.places p ≡ Some c →
    ◌≡◌ {A = WithEngine (Unit {0})} (Ok tt, with_place p None s) (step_of depth (call.Abandon p) s)
unfolding check with_chain
abandon_is_step depth p s c range here = rw (range, here) refl

-- Prune.

pub prune_is_step :
    (depth h : ℕ) (s : Engine) (store : Meaning) → store ≡ after_prune h s.store →
    ◌≡◌ {A = WithEngine (Unit {0})} (Ok tt, with_store store s) (step_of depth (call.Prune h) s)
prune_is_step depth h s store is = let E : Meaning → WithEngine (Unit {0}) = λ m. (Ok tt, with_store m s) in ap E is

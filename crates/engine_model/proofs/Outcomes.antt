-- Any statement about what comes of a call, taken apart as the step is built: one rule for each thing that a step is built
-- from, with what is known where the step goes on.
use Rattle.std.proofs.Common.{◌≡◌, ℕ, Bool, true, Some, None, Ok, Err, Option, Result, refl, sym, subst, arith}
use Rattle.std.proofs.lemmas.Bool.{cond_both}
use Rattle.snapshot.specs.declared.fault.EngineFault.{EngineFault}
use Rattle.engine_model.specs.Engines.{OpenLeg, LegState, unused, running, ended, Chain}
use Rattle.engine_model.specs.Steps.{StepOutcome, refused, accepted, answer_in, check, with_chain, with_open, with_open_leg, if_free, with_result, or_else}

module _ {X : Type 0} (P : StepOutcome X → Type 0) where
  pub at_check : (ok : Bool) (f : EngineFault) (next : StepOutcome X) → P (refused f) → (ok ≡ true → P next) → P (check ok f next)
  unfolding check
  at_check ok f next out on = cond_both ok next (refused f) P on (λ _. out)

  pub at_chain :
      (c : Option Chain) (f : EngineFault) (next : Chain → StepOutcome X) → P (refused f) →
      ((chain : Chain) → c ≡ Some chain → P (next chain)) → P (with_chain c f next)
  unfolding with_chain
  at_chain None f next out on = out
  at_chain (Some chain) f next out on = on chain refl

  pub at_open :
      (state : LegState) (f : EngineFault) (next : OpenLeg → StepOutcome X) → P (refused f) →
      ((leg : OpenLeg) → state ≡ running leg → P (next leg)) → P (with_open state f next)
  unfolding with_open
  at_open unused f next out on = out
  at_open (running leg) f next out on = on leg refl
  at_open ended f next out on = out

  pub at_open_leg :
      (c : Option Chain) (l : ℕ) (f : EngineFault) (next : Chain → OpenLeg → StepOutcome X) → P (refused f) →
      ((chain : Chain) (leg : OpenLeg) → c ≡ Some chain → chain.legs l ≡ running leg → P (next chain leg)) → P (with_open_leg c l f next)
  unfolding with_open_leg
  at_open_leg c l f next out on =
      at_chain c f _ out (λ chain here. at_open (chain.legs l) f _ out (λ leg open₀. on chain leg here open₀))

  pub at_free : (c : Option Chain) (f : EngineFault) (next : StepOutcome X) → P (refused f) → (c ≡ None → P next) → P (if_free c f next)
  unfolding if_free
  at_free None f next out on = on refl
  at_free (Some chain) f next out on = out

  pub at_result :
      {Y E : Type 0} (r : Result Y E) (f : E → EngineFault) (next : Y → StepOutcome X) → ((e : E) → r ≡ Err e → P (refused (f e))) →
      ((y : Y) → r ≡ Ok y → P (next y)) → P (with_result r f next)
  unfolding with_result
  at_result (Ok y) f next out on = on y refl
  at_result (Err e) f next out on = out e refl

  pub at_else :
      {Y : Type 0} (o : Option Y) (found : Y → StepOutcome X) (next : StepOutcome X) → ((y : Y) → o ≡ Some y → P (found y)) →
      (o ≡ None → P next) → P (or_else o found next)
  unfolding or_else
  at_else None found next on out = out refl
  at_else (Some y) found next on out = on y refl

-- what is so of the fault, if a call is refused
abbrev pub IfRefused : {X : Type 0} → (EngineFault → Type 0) → StepOutcome X → Type 0
IfRefused P (refused f) = P f
IfRefused P (accepted x s) = Unit {0}

pub if_refused :
    {X : Type 0} (P : EngineFault → Type 0) (o : StepOutcome X) (f : EngineFault) → Err f ≡ answer_in o → IfRefused P o → P f
if_refused P (refused g) f e h = let same : f ≡ g = cc in subst P (sym same) h
if_refused P (accepted x s) f e h = absurd (grind arith)

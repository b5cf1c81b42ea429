-- What a call makes of one chain and what comes of it in the model, taken apart together as they are built: one rule for each
-- thing that a step is built from.
use Rattle.std.proofs.Common.{◌≡◌, ℕ, Bool, true, false, if◌then◌else◌, not, nat_le, List, length, Some, None, Ok, Err, Option, Result, sym, subst}
use Rattle.std.specs.Option.{option_map_or}
use Rattle.snapshot.specs.Limits.{write_keys}
use Rattle.snapshot.specs.declared.account.Write.{Write}
use Rattle.snapshot.specs.declared.fault.EngineFault.{EngineFault}
use Rattle.snapshot.specs.declared.fault.Refusal.{Refusal}
use Rattle.snapshot.specs.declared.fault.Refusal.TheVariants.{WriteSetFull}
use Rattle.engine_parts.specs.WriteSets.{fit_or_refused}
use Rattle.engine_model.specs.Engines.{OpenLeg, LegState, unused, running, ended, Chain}
use Rattle.engine_model.specs.Steps.{StepOutcome, refused, check, with_chain, with_open, with_open_leg, with_result, or_else}
use Rattle.engine.specs.ChainCalls.{on_open}
use Rattle.engine.specs.Legs.{on_result}

-- Both sides.

module _ {X Z : Type 0} (P : Z → StepOutcome X → Type 0) where
  pub both_check :
      (ok : Bool) (f : EngineFault) (other z : Z) (next : StepOutcome X) → P other (refused f) → P z next →
      P (if ok then z else other) (check ok f next)
  unfolding check
  both_check true f other z next out on = on
  both_check false f other z next out on = out

  -- where the one side asks whether, and the other whether not
  pub both_check_not :
      (bad : Bool) (f : EngineFault) (other z : Z) (next : StepOutcome X) → P other (refused f) → P z next →
      P (if bad then other else z) (check (not bad) f next)
  unfolding check
  both_check_not true f other z next out on = out
  both_check_not false f other z next out on = on

  pub both_open :
      (state : LegState) (f : EngineFault) (other : Z) (z : OpenLeg → Z) (next : OpenLeg → StepOutcome X) → P other (refused f) →
      ((leg : OpenLeg) → P (z leg) (next leg)) → P (on_open state other z) (with_open state f next)
  unfolding with_open
  both_open unused f other z next out on = out
  both_open (running leg) f other z next out on = on leg
  both_open ended f other z next out on = out

  -- what is found, of which `of` makes the answer
  pub both_else :
      {Y V : Type 0} (of : V → Z) (o : Option Y) (v : Y → V) (other : V) (found : Y → StepOutcome X) (next : StepOutcome X) →
      ((y : Y) → P (of (v y)) (found y)) → P (of other) next → P (of (option_map_or v o other)) (or_else o found next)
  unfolding or_else
  both_else of None v other found next on out = out
  both_else of (Some y) v other found next on out = on y

  -- a result, of which `of` makes the answer
  pub both_result :
      {Y E V : Type 0} (of : V → Z) (r : Result Y E) (other : E → V) (v : Y → V) (f : E → EngineFault) (next : Y → StepOutcome X) →
      ((e : E) → P (of (other e)) (refused (f e))) → ((y : Y) → P (of (v y)) (next y)) →
      P (of (on_result r other v)) (with_result r f next)
  unfolding with_result
  both_result of (Ok y) other v f next out on = on y
  both_result of (Err e) other v f next out on = out e

  both_fit_by :
      {V : Type 0} (of : V → Z) (fits : Bool) (ws : List Write) (f : EngineFault) (other : Refusal → V) (v : List Write → V)
      (next : StepOutcome X) → P (of (other WriteSetFull)) (refused f) → P (of (v ws)) next →
      P (of (on_result {Y = List Write} (if fits then Ok ws else Err WriteSetFull) other v)) (check fits f next)
  unfolding check
  both_fit_by of true ws f other v next out on = on
  both_fit_by of false ws f other v next out on = out

  -- a write set that fits, of which `of` makes the answer
  pub both_fit :
      {V : Type 0} (of : V → Z) (ws : List Write) (f : EngineFault) (other : Refusal → V) (v : List Write → V)
      (next : StepOutcome X) → P (of (other WriteSetFull)) (refused f) → P (of (v ws)) next →
      P (of (on_result (fit_or_refused ws) other v)) (check (nat_le (length ws) write_keys) f next)
  both_fit of ws = both_fit_by of (nat_le (length ws) write_keys) ws

-- The model's side, where it is known how a test or a look-up comes out.

module _ {X : Type 0} (P : StepOutcome X → Type 0) where
  pub where_passed : (ok : Bool) (f : EngineFault) (next : StepOutcome X) → ok ≡ true → P next → P (check ok f next)
  unfolding check
  where_passed ok f next passed on = subst (λ b. P (check b f next)) (sym passed) on

  where_chain :
      (o : Option Chain) (f : EngineFault) (next : Chain → StepOutcome X) (c : Chain) → o ≡ Some c → P (next c) →
      P (with_chain o f next)
  unfolding with_chain
  where_chain o f next c here on = subst (λ o. P (with_chain o f next)) (sym here) on

  pub where_leg :
      (o : Option Chain) (l : ℕ) (f : EngineFault) (next : Chain → OpenLeg → StepOutcome X) (c : Chain) → o ≡ Some c →
      P (with_open (c.legs l) f (next c)) → P (with_open_leg o l f next)
  unfolding with_open_leg
  where_leg o l f next c here on = where_chain o f (λ c. with_open (c.legs l) f (next c)) c here on

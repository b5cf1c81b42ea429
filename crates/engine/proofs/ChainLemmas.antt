-- What a write to a chain's legs does to what the chain means.
use mathlib.Core.Path.{fun_ext}
use Rattle.std.proofs.Common.{◌≡◌, ℕ, zero, suc, ◌+◌, ◌-◌, ◌<◌, ◌≤◌, Bool, eqb, ltb, true, false, ◌&&◌, ◌||◌, ◌==◌, Some, Ok, Result, List, [], length, take, set, get_or, refl, sym, ap, ◌∙◌, add-one, arith}
use Rattle.std.proofs.lemmas.Bool.{false≢true, eq-eqb}
use Rattle.std.proofs.Math.Seq.{take-set-lt}
use Rattle.std.proofs.lemmas.List.{get_or-take, length-take, length-take-le, take_more_set}
use Rattle.snapshot.specs.Intervals.{from_to}
use Rattle.snapshot.specs.Limits.{leg_count}
use Rattle.snapshot.specs.declared.fault.EngineFault.{EngineFault}
use Rattle.engine_parts.proofs.ItemLemmas.{item_set, item_there, item_past, item_pushed}
use Rattle.engine_parts.specs.KeysRead.{ReadingsFields, readings_of}
use Rattle.engine_parts.specs.Lists.{item_at}
use Rattle.engine_model.proofs.Updates.{at_other}
use Rattle.engine_model.specs.declared.records.LegReading.{LegReading}
use Rattle.engine_model.specs.Updates.{with_at}
use Rattle.engine_model.specs.Steps.{only_open}
use Rattle.engine_model.specs.Engines as model
use Rattle.engine.specs.ChainCalls.{after_join}
use Rattle.engine.specs.Chains.{chain_of}
use Rattle.engine.specs.Legs.{leg_of, open_leg_of, open_in, leg_after, joined_leg}
use Rattle.engine.specs.declared.chain.Chain.{Chain}
use Rattle.engine.specs.declared.leg.Leg.{Leg}
use Rattle.engine.specs.declared.leg.LegCall.TheVariants as call
use Rattle.engine.specs.declared.leg.LegState.TheVariants as state
use Rattle.engine.specs.declared.named.Named.{Named}
use Rattle.engine.specs.declared.worker.Worker.TheVariants.{W0}
use Rattle.engine.specs.declared.leg.OpenLeg.{OpenLeg}

abbrev pub with_legs : List Leg → ℕ → Chain → Chain
with_legs ls n c = record { legs = ls; opened = n; readings = c.readings }

-- stands past the end of a list of legs, and is never looked at
abbrev pub no_leg : Leg
no_leg =
    record {
      state = state.Unused;
      leg = record { worker = W0; interval = from_to 0 0; writes = record { writes = record { items = []; len = 0 } } };
    }

-- the legs that have been opened
abbrev pub opened_legs : Chain → List Leg
opened_legs c = take c.opened c.legs

-- a number of one of them
abbrev pub IsOpened : Chain → ℕ → Type 0
IsOpened c l = (l < length c.legs) × (l < c.opened)

pub among_opened : (c : Chain) (l : ℕ) → IsOpened c l → l < length (opened_legs c)
among_opened c l h = omega (arith, h.0, h.1, length-take c.opened c.legs)

pub leg_set :
    (c : Chain) (l : ℕ) (state : Leg) → IsOpened c l →
    chain_of (with_legs (set c.legs l state) c.opened c) ≡ model.with_leg l (leg_of state) (chain_of c)
leg_set c l state h =
    let C : (ℕ → model.LegState) → model.Chain =
    λ f. record { legs = f; opened = (chain_of c).opened; readings = (chain_of c).readings } in
    ap (λ ls. C (item_at leg_of model.unused ls)) (take-set-lt c.opened c.legs l state h.1)
    ∙ ap C (item_set leg_of model.unused (opened_legs c) l state (among_opened c l h))

-- what stands at such a number
pub leg_there : (c : Chain) (l : ℕ) → IsOpened c l → (chain_of c).legs l ≡ leg_of (get_or c.legs l no_leg)
leg_there c l h =
    item_there leg_of model.unused (opened_legs c) l no_leg (among_opened c l h)
    ∙ ap leg_of (get_or-take c.opened c.legs l no_leg h.1)

-- what is made of a leg there is made of the chain
pub leg_made :
    (c : Chain) (l : ℕ) (new : Leg) (made : model.LegState → model.LegState) → IsOpened c l →
    leg_of new ≡ made (leg_of (get_or c.legs l no_leg)) →
    chain_of (with_legs (set c.legs l new) c.opened c) ≡ model.with_leg l (made ((chain_of c).legs l)) (chain_of c)
leg_made c l new made h is =
    leg_set c l new h
    ∙ ap (λ state. model.with_leg l state (chain_of c)) (is ∙ ap made (sym (leg_there c l h)))

pub leg_opened :
    (c : Chain) (o : OpenLeg) (new : Leg) → c.opened < length c.legs → leg_of new ≡ model.running (open_leg_of o) →
    chain_of (with_legs (set c.legs c.opened new) (c.opened + 1) c) ≡ model.open_leg (open_leg_of o) (chain_of c)
leg_opened c o new lt is =
    let C : (ℕ → model.LegState) → ℕ → model.Chain =
    λ f n. record { legs = f; opened = n; readings = (chain_of c).readings } in
    ap (λ ls. C (item_at leg_of model.unused ls) (c.opened + 1)) (take_more_set c.legs c.opened new lt)
    ∙ ap (λ f. C f (c.opened + 1)) (item_pushed leg_of model.unused (opened_legs c) new)
    ∙ ap (λ n. C (with_at n (leg_of new) (chain_of c).legs) (c.opened + 1)) (length-take-le c.opened c.legs (omega arith))
    ∙ ap (λ state. C (with_at c.opened state (chain_of c).legs) (c.opened + 1)) is
    ∙ ap (C (model.open_leg (open_leg_of o) (chain_of c)).legs) (add-one c.opened)

-- a chain of no legs and no readings
pub none_opened :
    (legs : List Leg) (readings : ReadingsFields) → readings_of readings ≡ [] →
    chain_of (record { legs = legs; opened = 0; readings = readings }) ≡ model.no_legs
none_opened legs readings none =
    let C : (ℕ → model.LegState) → List LegReading → model.Chain = λ f rs. record { legs = f; opened = 0; readings = rs } in
    ap (C (item_at leg_of model.unused [])) none
    ∙ ap (λ f. C f []) (fun_ext (λ l. item_past leg_of model.unused [] l (omega arith)))

-- whether one leg alone is open is known from those below a number from which on none has been opened
only_open_among :
    (l : ℕ) (states : ℕ → model.LegState) (n m : ℕ) → ((k : ℕ) → n ≤ k → k < n + m → states k ≡ model.unused) →
    only_open l states (n + m) ≡ only_open l states n
only_open_among l states n zero unused = ap (only_open l states) {x = n + zero} {y = n} (omega arith)
only_open_among l states n (suc m) unused =
    ap (only_open l states) {x = n + suc m} {y = suc (n + m)} (omega arith)
    ∙ rw (unused (n + m) (omega arith) (omega arith)) (both_ways (n + m == l) (only_open l states (n + m)))
    ∙ only_open_among l states n m (λ k le lt. unused k le (omega arith))
  where
    both_ways : (b x : Bool) → ((b || true) && x) ≡ x
    both_ways true x = refl
    both_ways false x = refl

pub only_open_below :
    (c : Chain) (l n : ℕ) → n ≤ leg_count → (n < leg_count → c.opened ≤ n) →
    only_open l (chain_of c).legs n ≡ only_open l (chain_of c).legs leg_count
only_open_below c l n le all =
    sym
    (ap (only_open l (chain_of c).legs) {x = leg_count} {y = n + (leg_count - n)} (omega arith)
    ∙ only_open_among l (chain_of c).legs n (leg_count - n) (λ k le_k lt. unused k le_k (omega arith)))
  where
    unused : (k : ℕ) → n ≤ k → k < leg_count → (chain_of c).legs k ≡ model.unused
    unused k le_k lt = item_past leg_of model.unused (opened_legs c) k (omega (arith, length-take c.opened c.legs, all (omega arith)))

-- a leg that is open ends
open_ends : (state : model.LegState) (o : model.OpenLeg) → open_in state ≡ Some o → (leg_after call.End state).1 ≡ model.ended
open_ends model.unused o e = absurd cc
open_ends (model.running l) o e = refl
open_ends model.ended o e = absurd cc

-- of two legs that are open, both end
pub both_end :
    (c : model.Chain) (l j : ℕ) (first second : model.OpenLeg) → eqb l j ≡ false → open_in (c.legs l) ≡ Some first →
    open_in (c.legs j) ≡ Some second → (one two : model.Chain) →
    one ≡ model.with_leg l (leg_after call.End (c.legs l)).1 c → two ≡ model.with_leg j (leg_after call.End (one.legs j)).1 one →
    two ≡ model.end_leg j (model.end_leg l c)
both_end c l j first second apart open_l open_j one two e f =
    let ended_one : one ≡ model.end_leg l c = e ∙ ap (λ state. model.with_leg l state c) (open_ends (c.legs l) first open_l) in
    let still : one.legs j ≡ c.legs j = ap (λ m. m.legs j) ended_one ∙ at_other l model.ended c.legs j (λ same. false≢true (sym apart ∙ eq-eqb l j (sym same))) in
    f
    ∙ ap (λ state. model.with_leg j (leg_after call.End state).1 one) still
    ∙ ap (λ state. model.with_leg j state one) (open_ends (c.legs j) second open_j)
    ∙ ap (model.with_leg j model.ended) ended_one

-- a join of two open legs that nothing stands against
joins :
    (n : Named) (j w : ℕ) (c : model.Chain) (first second both : model.OpenLeg) → open_in (c.legs n.leg) ≡ Some first →
    open_in (c.legs j) ≡ Some second → eqb n.leg j ≡ false → ltb c.opened 16 ≡ true → joined_leg w first second ≡ Ok both →
    after_join n j w c ≡ (Ok c.opened, model.open_leg both (model.end_leg j (model.end_leg n.leg c)))
joins n j w c first second both open_l open_j apart room together = rw (open_l, open_j, apart, room, together) refl

pub legs_joined :
    (n : Named) (j w : ℕ) (c : model.Chain) (first second both : model.OpenLeg) → open_in (c.legs n.leg) ≡ Some first →
    open_in (c.legs j) ≡ Some second → eqb n.leg j ≡ false → ltb c.opened 16 ≡ true → joined_leg w first second ≡ Ok both →
    (number : ℕ) (ended after : model.Chain) → number ≡ c.opened → ended ≡ model.end_leg j (model.end_leg n.leg c) →
    after ≡ model.open_leg both ended → (Ok number, after) ≡ after_join n j w c
legs_joined n j w c first second both open_l open_j apart room together number ended after is_next both_ended opened =
    let P : ℕ → model.Chain → Result ℕ EngineFault × model.Chain = λ k chain. (Ok k, chain) in
    ap (λ k. P k after) is_next
    ∙ ap (P c.opened) (opened ∙ ap (model.open_leg both) both_ended)
    ∙ sym (joins n j w c first second both open_l open_j apart room together)

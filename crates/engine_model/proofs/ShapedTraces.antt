-- Throughout every trace each cache is in shape: no call but read and deliver changes one.
use Rattle.std.proofs.Common.{ℕ, List, [], ◌∷◌, arith}
use Rattle.snapshot.specs.declared.account.Write.{Write}
use Rattle.engine_model.specs.CacheShape.{Shaped, ShapedInEveryTrace}
use Rattle.engine_model.specs.Caches.{entry_of}
use Rattle.engine_model.specs.Engines.{OpenLeg, Chain, Engine}
use Rattle.engine_model.specs.Traces.{engine_after}
use Rattle.engine_model.specs.Rules.{the_rules}
use Rattle.engine_model.specs.Steps.{StepOutcome, engine_in, step, handed_to_store}
use Rattle.engine_model.specs.declared.calls.Call.{Call}
use Rattle.engine_model.specs.declared.calls.Call.TheVariants as call
use Rattle.engine_model.proofs.CacheShapeProofs.{used_shaped, stored_shaped, noticed_shaped}
use Rattle.engine_model.proofs.Outcomes.{at_check, at_chain, at_open, at_open_leg, at_free, at_result, at_else}
use Rattle.engine_model.proofs.Updates.{at_each}

module _ (depth : ℕ) (s : Engine) (shaped : (w : ℕ) → Shaped (s.caches w)) where
  abbrev Keeps : {X : Type 0} → StepOutcome X → Type 0
  Keeps o = (w : ℕ) → Shaped ((engine_in s o).caches w)

  handed_keeps :
      (p l clock : ℕ) (chain : Chain) (leg : OpenLeg) (ws : List Write) → Keeps (handed_to_store the_rules depth p l clock chain leg ws s)
  handed_keeps p l clock chain leg [] = shaped
  handed_keeps p l clock chain leg (x ∷ xs) = at_result Keeps _ _ _ (λ _ _. shaped) (λ _ _. shaped)

  call_keeps : (c : Call) → Keeps (step the_rules depth c s)
  call_keeps (call.Begin p w) = at_check Keeps _ _ _ shaped (λ _. at_free Keeps _ _ _ shaped (λ _. shaped))
  call_keeps (call.Hand p l w) =
      at_check Keeps _ _ _ shaped (λ _. at_open_leg Keeps _ l _ _ shaped (λ _ _ _ _. at_check Keeps _ _ _ shaped (λ _. shaped)))
  call_keeps (call.Fork p l w v) =
      at_check Keeps _ _ _ shaped (λ _. at_open_leg Keeps _ l _ _ shaped (λ _ _ _ _. at_check Keeps _ _ _ shaped (λ _. shaped)))
  call_keeps (call.Join p l j w) =
      at_check Keeps _ _ _ shaped (λ _.
      at_open_leg Keeps _ l _ _ shaped (λ _ _ _ _.
      at_open Keeps _ _ _ shaped (λ _ _.
      at_check Keeps _ _ _ shaped (λ _.
      at_check Keeps _ _ _ shaped (λ _.
      at_result Keeps _ _ _ (λ _ _. shaped) (λ _ _.
      at_check Keeps _ _ _ shaped (λ _. shaped)))))))
  call_keeps (call.Read p l k) =
      at_check Keeps _ _ _ shaped (λ _.
      at_open_leg Keeps _ l _ _ shaped (λ chain leg _ _.
      let cache = s.caches leg.worker in
      at_else Keeps _ _ _ (λ _ _. shaped) (λ _.
      at_else Keeps _ _ _ (λ _ _. shaped) (λ _.
      at_check Keeps _ _ _ shaped (λ _.
      at_else Keeps _ _ _
      (λ e _. at_each (λ _ c. Shaped c) leg.worker _ s.caches (used_shaped e cache (shaped leg.worker)) shaped)
      (λ _.
      at_result Keeps _ _ _ (λ _ _. shaped) (λ r _.
      at_each (λ _ c. Shaped c) leg.worker _ s.caches (stored_shaped leg.interval.high (entry_of k r) cache (shaped leg.worker)) shaped)))))))
  call_keeps (call.Write p l k x) =
      at_check Keeps _ _ _ shaped (λ _. at_open_leg Keeps _ l _ _ shaped (λ _ _ _ _. at_check Keeps _ _ _ shaped (λ _. shaped)))
  call_keeps (call.Commit p l clock r w) =
      at_check Keeps _ _ _ shaped (λ _.
      at_open_leg Keeps _ l _ _ shaped (λ chain leg _ _.
      at_check Keeps _ _ _ shaped (λ _.
      at_check Keeps _ _ _ shaped (λ _. handed_keeps p l clock chain leg leg.writes))))
  call_keeps (call.Abandon p) = at_check Keeps _ _ _ shaped (λ _. at_chain Keeps _ _ _ shaped (λ _ _. shaped))
  call_keeps (call.Deliver i) =
      at_else Keeps _ _ _
      (λ n _. at_each (λ _ c. Shaped c) n.worker _ s.caches (noticed_shaped n (s.caches n.worker) (shaped n.worker)) shaped)
      (λ _. shaped)
  call_keeps (call.Discard i) = at_else Keeps _ _ _ (λ _ _. shaped) (λ _. shaped)
  call_keeps call.Count = shaped
  call_keeps (call.Prune h) = shaped

pub shaped_in_every_trace : ShapedInEveryTrace
shaped_in_every_trace store [] w = record { few_enough = omega arith; apart = tt }
shaped_in_every_trace store (e ∷ before) w =
    call_keeps store.depth (engine_after the_rules store before) (shaped_in_every_trace store before) e.called w

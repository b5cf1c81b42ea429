-- What stands at a place of an engine, and what a change of one chain or place is to the engine.
use Rattle.std.proofs.Common.{◌≡◌, ℕ, ◌<◌, Bool, true, false, List, [], ◌∷◌, length, get_or, set, Some, None, Err, Option, Result, ⊎_elim, refl, ap, ◌∙◌, sym, Ok}
use Rattle.std.specs.Result.{result_and, result_map_both}
use Rattle.std.proofs.lemmas.Bool.{cond-true, cond-false, cases_lt}
use Rattle.std.proofs.lemmas.List.{set-get_or, get_or-replicate, get_or_past}
use Rattle.snapshot.specs.Limits.{is_worker}
use Rattle.snapshot.specs.declared.fault.EngineFault.{EngineFault}
use Rattle.snapshot.specs.declared.fault.Refusal.TheVariants.{OutOfRange}
use Rattle.store.specs.Meaning.{Meaning}
use Rattle.engine_parts.specs.Lists.{item_at}
use Rattle.engine_parts.specs.Caches.{CacheFields, caches_of}
use Rattle.engine_parts.proofs.ItemLemmas.{item_set, item_there}
use Rattle.engine_model.specs.Engines as model
use Rattle.engine.specs.Chains.{chain_of}
use Rattle.engine.specs.Engines.{engine_over}
use Rattle.engine.specs.Naming.{in_range_or_refused}
use Rattle.engine.specs.Places.{chain_at}
use Rattle.engine_model.specs.Updates.{with_at}
use Rattle.engine.specs.StepOf.{answer_and_engine}
use Rattle.engine.specs.Workers.{worker_number}
use Rattle.engine.specs.declared.chain.Chain.{Chain}
use Rattle.engine.specs.declared.place.Place.{Place}
use Rattle.engine.specs.declared.state.State.{State}
use Rattle.engine.specs.declared.named.Named.{Named}
use Rattle.engine.specs.declared.worker.Worker.{Worker}
use Rattle.engine_model.specs.Steps.{StepOutcome, check, with_chain, with_open_leg, chain_fault}
use Rattle.engine.proofs.ReadStep.{with_caches}
use Rattle.engine.proofs.PlainSteps.{ComesTo, out_of_range, no_chain, no_chain_at_all}
use Rattle.engine.proofs.ChainSteps.{WithChain, WithEngine, IsStepOf}

-- Numbers in range.

range_fails :
    (n : Named) (ok : Bool) (f : EngineFault) → in_range_or_refused n ok ≡ Err f →
    (ok ≡ false) × (f ≡ chain_fault n.place n.leg n.key OutOfRange)
range_fails n true f e = absurd cc
range_fails n false f e = (refl, cc)

-- a check of ranges failed: the fault is that of the call's names
pub failed :
    (test : Named → Bool) (n m : Named) (r : Result (Unit {0}) EngineFault) (f : EngineFault) → n ≡ m →
    r ≡ in_range_or_refused n (test n) → r ≡ Err f → (test m ≡ false) × (f ≡ chain_fault m.place m.leg m.key OutOfRange)
failed test n m r f same checks is =
    range_fails m (test m) f (ap (λ k. in_range_or_refused k (test k)) (sym same) ∙ sym checks ∙ is)

range_passes : (n : Named) (ok : Bool) (u : Unit {0}) → in_range_or_refused n ok ≡ Ok u → ok ≡ true
range_passes n true u e = refl
range_passes n false u e = absurd cc

-- a check of ranges passed
pub passed :
    (test : Named → Bool) (n m : Named) (r : Result (Unit {0}) EngineFault) (u : Unit {0}) → n ≡ m →
    r ≡ in_range_or_refused n (test n) → r ≡ Ok u → test m ≡ true
passed test n m r u same checks is =
    range_passes m (test m) u (ap (λ k. in_range_or_refused k (test k)) (sym same) ∙ sym checks ∙ is)

-- the worker of a number, or the refusal
abbrev pub worker_or_refused : Named → ℕ → Result ℕ EngineFault
worker_or_refused n w = result_and (in_range_or_refused n (is_worker w)) (Ok w)

worker_fails :
    (n : Named) (b : Bool) (w : ℕ) (r : Result Worker EngineFault) (f : EngineFault) →
    result_map_both worker_number (λ g. g) r ≡ result_and (in_range_or_refused n b) (Ok w) → r ≡ Err f →
    (b ≡ false) × (f ≡ chain_fault n.place n.leg n.key OutOfRange)
worker_fails n true w r f found is = absurd (cc (ap (result_map_both worker_number (λ g. g)) is))
worker_fails n false w r f found is = (refl, cc (ap (result_map_both worker_number (λ g. g)) is))

-- no worker has the number
pub no_worker :
    (n m : Named) (w : ℕ) (r : Result Worker EngineFault) (f : EngineFault) → n ≡ m →
    result_map_both worker_number (λ g. g) r ≡ worker_or_refused n w → r ≡ Err f →
    (is_worker w ≡ false) × (f ≡ chain_fault m.place m.leg m.key OutOfRange)
no_worker n m w r f same found is =
    worker_fails m (is_worker w) w r f (found ∙ ap (λ k. worker_or_refused k w) same) is

worker_passes :
    (n : Named) (b : Bool) (w : ℕ) (r : Result Worker EngineFault) (x : Worker) →
    result_map_both worker_number (λ g. g) r ≡ result_and (in_range_or_refused n b) (Ok w) → r ≡ Ok x →
    (b ≡ true) × (worker_number x ≡ w)
worker_passes n true w r x found is = (refl, cc (ap (result_map_both worker_number (λ g. g)) is))
worker_passes n false w r x found is = absurd (cc (ap (result_map_both worker_number (λ g. g)) is))

-- one has it
pub worker_is :
    (n : Named) (w : ℕ) (r : Result Worker EngineFault) (x : Worker) →
    result_map_both worker_number (λ g. g) r ≡ worker_or_refused n w → r ≡ Ok x → (is_worker w ≡ true) × (worker_number x ≡ w)
worker_is n w r x found is = worker_passes n (is_worker w) w r x found is

-- Places.

-- four places without a chain
pub no_chains :
    (a b c d : Place) → chain_at a ≡ None → chain_at b ≡ None → chain_at c ≡ None → chain_at d ≡ None →
    (p : ℕ) → item_at chain_at None (a ∷ b ∷ c ∷ d ∷ []) p ≡ None
no_chains a b c d none_a none_b none_c none_d p =
    let nones : List (Option model.Chain) = None ∷ None ∷ None ∷ None ∷ [] in
    let L : Option model.Chain → Option model.Chain → Option model.Chain → Option model.Chain → Option model.Chain =
    λ w x y z. get_or (w ∷ x ∷ y ∷ z ∷ []) p None in
    ap (λ w. L w (chain_at b) (chain_at c) (chain_at d)) none_a
    ∙ ap (λ x. L None x (chain_at c) (chain_at d)) none_b
    ∙ ap (λ y. L None None y (chain_at d)) none_c
    ∙ ap (L None None None) none_d
    ∙ ⊎_elim (λ lt. get_or-replicate 4 p None None lt) (λ le. get_or_past nones p None le) (cases_lt p 4)

-- the place of a number; d is never looked at
abbrev pub place_in : Place → State → ℕ → Place
place_in d e p = get_or e.places p d

pub taken : (here : Place) → here.is_taken ≡ true → chain_at here ≡ Some (chain_of here.chain)
taken here is = cond-true here.is_taken (Some (chain_of here.chain)) None is

pub not_taken : (here : Place) → here.is_taken ≡ false → chain_at here ≡ None
not_taken here is = cond-false here.is_taken (Some (chain_of here.chain)) None is

module _ (m : Meaning) (e : State) (p : ℕ) (d : Place) (within : p < length e.places) where
  -- what stands at a place
  stands_at : (engine_over m e).places p ≡ chain_at (place_in d e p)
  stands_at = item_there chain_at None e.places p d within

  pub stands : (place_in d e p).is_taken ≡ true → (engine_over m e).places p ≡ Some (chain_of (place_in d e p).chain)
  stands is = stands_at ∙ taken (place_in d e p) is

  pub nothing_there : (place_in d e p).is_taken ≡ false → (engine_over m e).places p ≡ None
  nothing_there is = stands_at ∙ not_taken (place_in d e p) is

  -- another chain, or none, stands there
  pub place_set :
      (here : Place) (o : Option model.Chain) → chain_at here ≡ o →
      engine_over m (record e { places = set e.places p here }) ≡ model.with_place p o (engine_over m e)
  place_set here o is =
      let E : (ℕ → Option model.Chain) → model.Engine =
      λ f. record { places = f; caches = (engine_over m e).caches; notices = (engine_over m e).notices; store = (engine_over m e).store } in
      ap E (item_set chain_at None e.places p here within)
      ∙ ap (λ x. E (with_at p x (engine_over m e).places)) is

  -- what a call makes of the chain there, it makes of the engine
  pub called :
      {X : Type 0} (r : Result X EngineFault) (after : Chain) (made : WithChain X) (step : WithEngine X) →
      (place_in d e p).is_taken ≡ true → IsStepOf (engine_over m e) p made step → ◌≡◌ {A = WithChain X} (r, chain_of after) made →
      ◌≡◌ {A = WithEngine X} (r, engine_over m (record e { places = set e.places p (record (place_in d e p) { chain = after }) })) step
  called {X} r after made step is_taken lift is =
      let here : Place = record (place_in d e p) { chain = after } in
      ap (λ s. let t : WithEngine X = (r, s) in t) (place_set here (Some (chain_of after)) (taken here is_taken)) ∙ lift r (chain_of after) is

  -- a place that was looked at and left
  pub left : engine_over m (record e { places = set e.places p (place_in d e p) }) ≡ engine_over m e
  left = ap (λ ps. engine_over m (record e { places = ps })) (set-get_or e.places p d)

-- An answer, or an engine, in the place of one that is the same.

pub answered :
    {X : Type 0} (s : model.Engine) (r q : Result X EngineFault) (step : WithEngine X) → r ≡ q → ◌≡◌ {A = WithEngine X} (q, s) step →
    ◌≡◌ {A = WithEngine X} (r, s) step
answered {X} s r q step same is = ap (λ h. let t : WithEngine X = (h, s) in t) same ∙ is

pub left_after :
    {X : Type 0} (s t : model.Engine) (r : Result X EngineFault) (step : WithEngine X) → s ≡ t → ◌≡◌ {A = WithEngine X} (r, t) step →
    ◌≡◌ {A = WithEngine X} (r, s) step
left_after {X} s t r step same is = ap (λ h. let u : WithEngine X = (r, h) in u) same ∙ is

-- Refusals at the head of a call, by the answer that it gives.

pub refused_out :
    {X : Type 0} (s : model.Engine) (ok : Bool) (r : Result X EngineFault) (f g : EngineFault) (next : StepOutcome X) → r ≡ Err f →
    f ≡ g → ok ≡ false → ComesTo s r s (check ok g next)
refused_out {X} s ok r f g next is same failed =
    answered s r (Err g) _ (is ∙ ap Err same) (out_of_range ok g next s failed)

module _ (m : Meaning) (e : State) (p : ℕ) (d : Place) (within : p < length e.places) where
  pub refused_missing :
      {X : Type 0} (ok : Bool) (f g h : EngineFault) (l : ℕ) (next : model.Chain → model.OpenLeg → StepOutcome X) → f ≡ h →
      ok ≡ true → (place_in d e p).is_taken ≡ false →
      ◌≡◌ {A = WithEngine X}
      (Err f, engine_over m (record e { places = set e.places p (place_in d e p) }))
      (answer_and_engine (engine_over m e) (check ok g (with_open_leg ((engine_over m e).places p) l h next)))
  refused_missing {X} ok f g h l next same passed none =
      let s = engine_over m e in
      left_after _ s (Err f) _ (left m e p d within)
      (answered s (Err f) (Err h) _ (ap Err same) (no_chain ok g (s.places p) l h next s passed (nothing_there m e p d within none)))

  pub refused_at_all :
      {X : Type 0} (ok : Bool) (f g h : EngineFault) (next : model.Chain → StepOutcome X) → f ≡ h → ok ≡ true →
      (place_in d e p).is_taken ≡ false →
      ◌≡◌ {A = WithEngine X}
      (Err f, engine_over m (record e { places = set e.places p (place_in d e p) }))
      (answer_and_engine (engine_over m e) (check ok g (with_chain ((engine_over m e).places p) h next)))
  refused_at_all {X} ok f g h next same passed none =
      let s = engine_over m e in
      left_after _ s (Err f) _ (left m e p d within)
      (answered s (Err f) (Err h) _ (ap Err same) (no_chain_at_all ok g (s.places p) h next s passed (nothing_there m e p d within none)))

  -- another chain stands there, and the caches are others
  pub read_called :
      (r : Result ℕ EngineFault) (after : Chain) (caches : List CacheFields) (step : WithEngine ℕ) → (place_in d e p).is_taken ≡ true →
      ◌≡◌ {A = WithEngine ℕ} (r, with_caches (engine_over m e) p (chain_of after, caches_of caches)) step →
      ◌≡◌ {A = WithEngine ℕ}
      (r, engine_over m (record e { places = set e.places p (record (place_in d e p) { chain = after }); caches = caches }))
      step
  read_called r after caches step is_taken is =
      let s = engine_over m e in
      let here : Place = record (place_in d e p) { chain = after } in
      let E : (ℕ → Option model.Chain) → WithEngine ℕ =
      λ f. (r, record { places = f; caches = caches_of caches; notices = s.notices; store = s.store }) in
      ap E (item_set chain_at None e.places p here within)
      ∙ ap (λ x. E (with_at p x s.places)) (taken here is_taken)
      ∙ is

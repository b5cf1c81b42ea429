-- A commit: what the leg that commits, the store and the notices make of it is the step.
use Rattle.std.proofs.Common.{◌≡◌, ℕ, true, ◌&&◌, List, [], ◌∷◌, Some, None, Ok, Err, Result, refl}
use Rattle.snapshot.specs.Accounts.{Account}
use Rattle.snapshot.specs.Limits.{is_place, is_leg}
use Rattle.snapshot.specs.Refusals.{not_named, around_store}
use Rattle.snapshot.specs.declared.account.Write.{Write}
use Rattle.snapshot.specs.declared.fault.EngineFault.{EngineFault}
use Rattle.snapshot.specs.declared.fault.Fault.{Fault}
use Rattle.store.specs.Meaning.{Meaning, commit_answer}
use Rattle.engine_model.specs.Engines.{OpenLeg, Chain, Notices, Engine, with_place, with_notices, with_store}
use Rattle.engine_model.specs.Rules.{the_rules}
use Rattle.engine_model.specs.Steps.{StepOutcome, account_for, handed_to_store}
use Rattle.engine_model.specs.declared.calls.Call.TheVariants as call
use Rattle.engine.specs.Commits.{committing_leg, given_to_store}
use Rattle.engine.specs.Legs.{on_result}
use Rattle.engine.specs.StepOf.{answer_and_engine, step_of}
use Rattle.engine.specs.Naming.{naming}
use Rattle.engine.proofs.ChainSteps.{WithEngine}
use Rattle.engine.proofs.BothSides.{both_check, both_open, both_result, where_passed, where_leg}

-- what the store and the notices became
abbrev pub GivenToStore : Type 0
GivenToStore = Result ℕ Fault × (Meaning × Notices)

-- the account, and the engine with its place free, where the store took the writes
abbrev pub account_made : ℕ → ℕ → Chain → OpenLeg → Engine → GivenToStore → WithEngine Account
account_made p l c leg s handed =
    on_result handed.0
    (λ f. (Err (around_store f p l not_named), s))
    (λ t. (Ok (account_for c leg t), with_place p None (with_store handed.1.0 (with_notices handed.1.1 s))))

-- what comes of a commit, once it is known which leg commits
abbrev pub commit_made : ℕ → ℕ → ℕ → ℕ → Chain → Engine → Result OpenLeg EngineFault → WithEngine Account
commit_made depth p l clock c s leg =
    on_result leg (λ f. (Err f, s)) (λ o.
    account_made p l c o s (given_to_store depth clock o.writes s.caches (s.store, s.notices)))

handed :
    (depth p l clock : ℕ) (c : Chain) (leg : OpenLeg) (ws : List Write) (s : Engine) →
    account_made p l c leg s (given_to_store depth clock ws s.caches (s.store, s.notices))
    ≡ answer_and_engine s (handed_to_store the_rules depth p l clock c leg ws s)
handed depth p l clock c leg [] s = refl
handed depth p l clock c leg (w ∷ ws) s =
    let P : WithEngine Account → StepOutcome Account → Type 0 = λ made o. made ≡ answer_and_engine s o in
    both_result P (account_made p l c leg s) (commit_answer depth clock (w ∷ ws) s.store) _ _ _ _ (λ f. refl) (λ t. refl)

pub commit_is_step :
    (depth p l clock r w : ℕ) (s : Engine) (c : Chain) → (is_place p && is_leg l) ≡ true → s.places p ≡ Some c →
    commit_made depth p l clock c s (committing_leg (naming p l not_named) r w c) ≡ step_of depth (call.Commit p l clock r w) s
commit_is_step depth p l clock r w s c range here =
    let of : Result OpenLeg EngineFault → WithEngine Account = commit_made depth p l clock c s in
    let P : Result OpenLeg EngineFault → StepOutcome Account → Type 0 = λ leg o. of leg ≡ answer_and_engine s o in
    let leg : Result OpenLeg EngineFault = committing_leg (naming p l not_named) r w c in
    where_passed (P leg) _ _ _ range
    (where_leg (P leg) _ l _ _ c here
    (both_open P (c.legs l) _ _ _ _ refl (λ o.
    both_check P _ _ _ _ _ refl
    (both_check P _ _ _ _ _ refl (handed depth p l clock c o o.writes s)))))

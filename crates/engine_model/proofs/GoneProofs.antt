-- A read is refused as gone only where the store has dropped the version that the history holds at the high end of its
-- leg's interval.
use Rattle.std.proofs.Common.{◌≡◌, ℕ, true, Err, Option, ap, ◌∙◌, subst, arith}
use Rattle.std.specs.Option.{ok_or}
use Rattle.std.specs.Result.{result_and}
use Rattle.std.specs.List.{ContainsAt as Has}
use Rattle.std.proofs.lemmas.Bool.{and_parts}
use Rattle.snapshot.specs.Limits.{is_key}
use Rattle.snapshot.specs.declared.account.Reading.{Reading}
use Rattle.snapshot.specs.declared.fault.EngineFault.{EngineFault}
use Rattle.snapshot.specs.declared.fault.Fault.{Fault}
use Rattle.snapshot.specs.declared.fault.Refusal.TheVariants.{VersionGone}
use Rattle.store.specs.Meaning.{Meaning, in_range, version_answer, query_fault}
use Rattle.store.proofs.Keeping.{law_from_stands}
use Rattle.engine_model.specs.Engines.{Engine}
use Rattle.engine_model.specs.Law.{GoneLaw, leg_in, leg_at}
use Rattle.engine_model.specs.Traces.{NewStore, ObservedChain}
use Rattle.engine_model.specs.RuleLaws.{PartsWithLaws, rules_of}
use Rattle.engine_model.specs.Rules.{Rules}
use Rattle.engine_model.specs.Steps.{StepOutcome, answer_in, step}
use Rattle.engine_model.specs.declared.calls.Call.TheVariants as call
use Rattle.engine_model.proofs.Outcomes.{IfRefused, if_refused, at_check, at_open_leg, at_result, at_else}
use Rattle.engine_model.proofs.Readings.{History}
use Rattle.engine_model.proofs.Sound.{Sound}

-- the store's only refusal of that name
gone_fault :
    (k s : ℕ) (o : Option Reading) (f : Fault) → result_and (in_range k s) (ok_or o (query_fault VersionGone k)) ≡ Err f →
    f.refusal ≡ VersionGone →
    result_and (in_range k s) (ok_or o (query_fault VersionGone k)) ≡ Err (query_fault VersionGone k)
gone_fault k s o f e gone = grind arith

module _
    (parts : PartsWithLaws)
    (store : NewStore) (h : History) (observed : ℕ → ObservedChain) (m : Meaning) (s : Engine) (sound : Sound store parts.limits h observed m s)
  where
    abbrev rules : Rules
    rules = rules_of parts

    pub read_gone :
        (p l k : ℕ) (f : EngineFault) → Err f ≡ answer_in (step rules store.depth (call.Read p l k) s) →
        f.fault.refusal ≡ VersionGone → GoneLaw h m.kept (leg_at s p l) k
    read_gone p l k f e gone =
        let D : Type 0 = GoneLaw h m.kept (leg_at s p l) k in
        let IfGone : EngineFault → Type 0 = λ g. g.fault.refusal ≡ VersionGone → D in
        let P : StepOutcome ℕ → Type 0 = IfRefused IfGone in
        if_refused IfGone (step rules store.depth (call.Read p l k) s) f e
        (at_check P _ _ _ (λ clash. absurd (grind arith)) (λ range.
        at_open_leg P _ l _ _ (λ clash. absurd (grind arith)) (λ chain leg here is_open.
        at_else P _ _ _ (λ _ _. tt) (λ _.
        at_else P _ _ _ (λ _ _. tt) (λ _.
        at_check P _ _ _ (λ clash. absurd (grind arith)) (λ few.
        at_else P _ _ _ (λ _ _. tt) (λ _.
        at_result P _ _ _
        (λ fault answer is_gone.
        let key : is_key k ≡ true = (and_parts _ _ range).1 in
        let high = leg.interval.high in
        let refusal : version_answer s.store k high ≡ Err (query_fault VersionGone k) = gone_fault k high _ fault answer is_gone in
        let lost = ((law_from_stands store.depth store.capacity s.store h sound.stands).of_keys k key).refused high refusal in
        record {
          reader = leg;
          is_open = ap (λ c. leg_in c l) here ∙ is_open;
          version = lost.0;
          held = lost.1;
          dropped = subst (λ n. Has (n.kept k) lost.0 → ⊥) sound.same_store lost.2;
        })
        (λ r _. tt))))))))
        gone

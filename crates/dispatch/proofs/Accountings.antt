-- What an account lists was so at every time from its low to its high: its readings are true of the history from their timestamps
-- to their promises, and low and high lie between these.
use Rattle.std.proofs.Common.{◌≡◌, ℕ, ◌≤◌, true, ◌&&◌, List, [], ◌∷◌, length, drop, Ok, Err, Result, inr, refl, sym, subst, ap, ◌∙◌, arith}
use Rattle.std.specs.List.{AllByRecursion, list_all}
use Rattle.std.proofs.lemmas.Bool.{and_parts}
use Rattle.std.proofs.lemmas.List.{length-append}
use Rattle.snapshot.specs.Accounts.{Account, account_of, head_of, lawful, few_enough, sound_reading, rising_from, agreed_ends, sound_timestamp}
use Rattle.snapshot.specs.Intervals.{Current}
use Rattle.snapshot.specs.Limits.{chain_readings, write_keys}
use Rattle.snapshot.specs.Overwriting.{overwritten}
use Rattle.snapshot.specs.declared.account.AccountHead.{AccountHead}
use Rattle.snapshot.specs.declared.account.ChainReading.{ChainReading}
use Rattle.snapshot.specs.declared.account.Write.{Write}
use Rattle.snapshot.specs.declared.fault.EngineFault.{EngineFault}
use Rattle.snapshot.proofs.Agreement.{ends_agree}
use Rattle.store.specs.Laws.{version_read}
use Rattle.store.specs.Meaning.{Meaning}
use Rattle.store.specs.declared.version.Version.{Version}
use Rattle.engine_model.specs.Engines.{Engine}
use Rattle.engine_model.specs.Law.{AccountLaw, TrueOf, ValueAt}
use Rattle.engine_model.specs.Rules.{Rules}
use Rattle.engine_model.specs.Traces.{Trace, NewStore}
use Rattle.engine.specs.Commits.{account_in, answer_and_lists}
use Rattle.engine.specs.Engines.{CallersLists, IsCommit, IsStep, engine_of}
use Rattle.engine.specs.StepOf.{step_of}
use Rattle.engine_model.specs.declared.calls.Call.{Call}
use Rattle.engine_model.specs.declared.calls.Call.TheVariants as call
use Rattle.engine.proofs.CommitLemmas.{account_shown}
use Rattle.engine.specs.declared.engine.Engine.{Engine as Running}
use Rattle.engine.specs.EngineLaw.{AddsAccount, InEveryTrace}
use Rattle.dispatch.specs.Accounting.{Accounted, AccountedOnceThereIsRoom, Commits, Held, RefusedAsFull, pruned}

-- a lawful account goes from the greatest timestamp to the least promise
agreed : (a : Account) → lawful a ≡ true → agreed_ends a.low a.high a.readings ≡ true
agreed a e =
    let sound = few_enough a.readings a.writes && list_all sound_reading a.readings && rising_from 0 a.writes in
    let ends = agreed_ends a.low a.high a.readings in
    (and_parts sound ends (and_parts (sound && ends) (sound_timestamp a.timestamp a.readings a.writes) e).0).1

-- true readings that are known to be current at a time give their values at it
values : (history : ℕ → List Version) (s : ℕ) (rs : List ChainReading) → AllByRecursion (TrueOf history) rs →
    AllByRecursion (λ r. Current s r.reading) rs → AllByRecursion (λ r. ValueAt s r.reading.value (history r.key)) rs
values history s [] all current = tt
values history s (r ∷ rs) all current =
    ((version_read r.reading, all.0 s current.0, refl), values history s rs all.1 current.1)

held : (rules : Rules) (store : NewStore) (history : ℕ → List Version) (before : Trace) (p l clock : ℕ) (a : Account) →
    AccountLaw rules store history before p l clock a → Held history a
held rules store history before p l clock a law s lies =
    values history s a.readings law.true_readings ((ends_agree a (agreed a law.for_the_book)).when_in s lies)

-- an account that keeps the law in every trace
pub accounted : (depth : ℕ) (before : Engine) (p l clock : ℕ) (a : Account) →
    InEveryTrace depth before (λ store trace. AddsAccount store trace p l clock chain_readings write_keys a) →
    Accounted depth before p l clock a
unfolding Accounted
accounted depth before p l clock a law store trace same led =
    let added = law store trace same led in
    (added, held _ store _ trace p l clock a added)

-- an account of a commit that was accepted once the store was pruned
pub once_pruned :
    (depth : ℕ) (before between after : Engine) (p l clock horizon : ℕ) (a : Account) → RefusedAsFull depth before p l clock →
    pruned horizon before ≡ between → Commits depth between p l clock a after → Accounted depth between p l clock a →
    AccountedOnceThereIsRoom depth before p l clock horizon a after
once_pruned depth before between after p l clock horizon a full is commits all =
    let both = subst (λ e. Commits depth e p l clock a after × Accounted depth e p l clock a) (sym is) (commits, all) in
    inr (full, both.0, both.1)

-- the lists that a commit has filled are as long as its answer says, or longer
abbrev answered : AccountHead → Result AccountHead EngineFault → AccountHead
answered h (Ok x) = x
answered h (Err f) = h

fit :
    (rs : List ChainReading) (ws : List Write) (d : Result Account EngineFault) (h : AccountHead) (lists : CallersLists) →
    (Ok h, lists) ≡ answer_and_lists rs ws d → (h.readings ≤ length lists.0) × (h.writes ≤ length lists.1)
fit rs ws (Ok a) h lists is =
    let numbers : h ≡ head_of a = ap (λ t. answered h t.0) is in
    let readings : lists.0 ≡ overwritten a.readings rs = ap (λ t. t.1.0) is in
    let writes : lists.1 ≡ overwritten a.writes ws = ap (λ t. t.1.1) is in (
      omega (arith, ap (λ x. x.readings) numbers, ap length readings, length-append a.readings (drop (length a.readings) rs)),
      omega (arith, ap (λ x. x.writes) numbers, ap length writes, length-append a.writes (drop (length a.writes) ws)),
    )
fit rs ws (Err f) h lists is = absurd (cc (ap (λ t. t.0) is))

pub lists_fit :
    {S : Type 0} (meaning : S → Meaning) (depth p l clock r w : ℕ) (before after : Running S) (lists filled : CallersLists) (h : AccountHead) →
    IsCommit meaning depth p l clock r w before lists (Ok h) filled after →
    (h.readings ≤ length filled.0) × (h.writes ≤ length filled.1)
lists_fit meaning depth p l clock r w before after lists filled h is = fit _ _ _ h filled (ap (λ x. x.0) is)

-- what a commit answers, with what it has filled in, and the engine after it follow by the rules
module _ {S : Type 0} (meaning : S → Meaning) (depth p l clock : ℕ) (before after : Running S) (lists filled : CallersLists) where
  abbrev the_commit : Call
  the_commit = call.Commit p l clock chain_readings write_keys

  abbrev drawn : Result Account EngineFault × Engine
  drawn = step_of depth the_commit (engine_of meaning before)

  abbrev Shown : Type 0
  Shown = (Result AccountHead EngineFault × CallersLists) × Engine

  shown :
      (q : Result AccountHead EngineFault) → IsCommit meaning depth p l clock chain_readings write_keys before lists q filled after →
      ◌≡◌ {A = Result Account EngineFault × Engine} (account_in q filled.0 filled.1, engine_of meaning after) drawn
  shown q is =
      let account : Shown → Result Account EngineFault × Engine = λ t. (account_in t.0.0 t.0.1.0 t.0.1.1, t.1) in
      let handed = answer_and_lists lists.0 lists.1 drawn.0 in
      ap account is ∙ ap (λ x. (x, drawn.1)) (account_shown lists.0 lists.1 handed.0 handed.1 drawn.0 refl)

  pub shown_accepted :
      (h : AccountHead) → IsCommit meaning depth p l clock chain_readings write_keys before lists (Ok h) filled after →
      IsStep meaning depth the_commit before (Ok (account_of h filled.0 filled.1)) after
  shown_accepted h is = shown (Ok h) is

  pub shown_refused :
      (f : EngineFault) → IsCommit meaning depth p l clock chain_readings write_keys before lists (Err f) filled after →
      IsStep meaning depth the_commit before (Err f) after
  shown_refused f is = shown (Err f) is

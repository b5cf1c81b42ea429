-- What a commit leaves: its caller's lists and the engine; and the law of its account.
use Rattle.std.proofs.Common.{◌≡◌, ℕ, ◌+◌, ◌<◌, ◌≤◌, true, ◌&&◌, List, [], ◌∷◌, ◌++◌, length, take, set, get_or, IfOk, Some, None, Ok, Err, Option, Result, refl, sym, ap, subst, Bool, false, if◌then◌else◌, nat_le, ◌∙◌, arith}
use Rattle.std.specs.Result.{result_map_both}
use Rattle.std.proofs.lemmas.List.{take_more, take_at, length-take-le}
use Rattle.snapshot.specs.Accounts.{Account, head_of, account_of}
use Rattle.snapshot.specs.Limits.{leg_count}
use Rattle.snapshot.specs.Overwriting.{overwritten}
use Rattle.snapshot.specs.Refusals.{not_named}
use Rattle.snapshot.specs.declared.account.AccountHead.{AccountHead}
use Rattle.snapshot.specs.declared.account.ChainReading.{ChainReading}
use Rattle.snapshot.specs.declared.account.Write.{Write}
use Rattle.snapshot.specs.declared.fault.EngineFault.{EngineFault}
use Rattle.snapshot.specs.declared.fault.Fault.{Fault}
use Rattle.snapshot.specs.declared.fault.Refusal.TheVariants.{NotOpen, AnotherLegOpen, TooShort}
use Rattle.snapshot.proofs.Overwritten.{one_more}
use Rattle.store.specs.Meaning.{Meaning}
use Rattle.engine_parts.specs.WaitingNotices.{notices_of}
use Rattle.engine_parts.specs.declared.notices.Notices.{Notices}
use Rattle.engine_parts.proofs.ItemLemmas.{item_set}
use Rattle.engine_model.specs.Engines as model
use Rattle.engine_model.specs.Replies.{Replies}
use Rattle.engine_model.specs.Law.{AccountLaw}
use Rattle.engine_model.specs.Traces.{event, history_of}
use Rattle.engine_model.specs.Rules.{the_rules}
use Rattle.engine_model.specs.Steps.{answer_in, chain_fault, only_open, step}
use Rattle.engine_model.specs.declared.calls.Call.TheVariants as call
use Rattle.engine_model.proofs.ReplyProofs.{replies}
use Rattle.engine_model.proofs.TraceProofs.{the_rules_lawful}
use Rattle.engine.specs.ChainCalls.{on_open}
use Rattle.engine.specs.Chains.{chain_of}
use Rattle.engine.specs.Commits.{committing_leg, answer_and_lists, account_in, given_to_store}
use Rattle.engine.specs.Engines.{CallersLists, engine_over}
use Rattle.engine.specs.Legs.{lent_leg}
use Rattle.std.specs.Borrow.{Bor}
use Rattle.engine.specs.EngineLaw.{AddsAccount, InEveryTrace}
use Rattle.engine.specs.Naming.{naming, leg_in_range}
use Rattle.engine.specs.StepOf.{step_of}
use Rattle.engine.specs.declared.chain.Chain.{Chain}
use Rattle.engine.specs.declared.place.Place.{Place}
use Rattle.engine.specs.Places.{chain_at}
use Rattle.engine_model.specs.Updates.{with_at}
use Rattle.engine.specs.declared.state.State.{State}
use Rattle.engine.specs.declared.leg.OpenLeg.{OpenLeg}
use Rattle.engine.specs.declared.named.Named.{Named}
use Rattle.engine.proofs.ChainSteps.{WithEngine}
use Rattle.engine.proofs.CommitStep.{GivenToStore, commit_is_step, commit_made, account_made}

-- The lists.

-- one element more stands in the start of a list
pub filled_more :
    {X : Type 0} (xs old list : List X) (n : ℕ) (x d : X) → n < length xs → length xs ≤ length old →
    list ≡ overwritten (take n xs) old → x ≡ get_or xs n d → set list n x ≡ overwritten (take (n + 1) xs) old
filled_more xs old list n x d lt room is same =
    one_more old (take n xs) {mid = list} n (sym (length-take-le n xs (omega arith))) is x (omega arith)
    ∙ ap (λ front. overwritten front old) (ap (λ y. take n xs ++ (y ∷ [])) same ∙ sym (take_more xs n d lt))

-- the five numbers and the two lists make the account
shows : (rs : List ChainReading) (ws : List Write) (a : Account) → account_of (head_of a) (overwritten a.readings rs) (overwritten a.writes ws) ≡ a
shows rs ws a =
    let A : List ChainReading → List Write → Account =
    λ xs ys. record { low = a.low; high = a.high; timestamp = a.timestamp; readings = xs; writes = ys } in
    ap (λ xs. A xs (take (length a.writes) (overwritten a.writes ws))) (take_at a.readings _ (length a.readings) refl)
    ∙ ap (A a.readings) (take_at a.writes _ (length a.writes) refl)

abbrev head_in : AccountHead → Result AccountHead EngineFault → AccountHead
head_in h (Ok x) = x
head_in h (Err f) = h

pub lists_show :
    (rs : List ChainReading) (ws : List Write) (a : Account) (h : AccountHead) (lists : CallersLists) →
    (Ok h, lists) ≡ answer_and_lists rs ws (Ok a) → account_of h lists.0 lists.1 ≡ a
lists_show rs ws a h lists is =
    let shown_account : Result AccountHead EngineFault × CallersLists → Account = λ t. account_of (head_in h t.0) t.1.0 t.1.1 in
    ap shown_account is ∙ shows rs ws a

pub account_shown :
    (rs : List ChainReading) (ws : List Write) (q : Result AccountHead EngineFault) (lists : CallersLists) (d : Result Account EngineFault) →
    (q, lists) ≡ answer_and_lists rs ws d → account_in q lists.0 lists.1 ≡ d
account_shown rs ws q lists (Ok a) is = ap (λ t. account_in t.0 t.1.0 t.1.1) is ∙ ap Ok (shows rs ws a)
account_shown rs ws q lists (Err f) is = ap (λ t. account_in t.0 t.1.0 t.1.1) is

-- the five numbers of an account
pub head_shown :
    (h : AccountHead) (rs : List ChainReading) (ws : List Write) → h.readings ≤ length rs → h.writes ≤ length ws →
    h ≡ head_of (account_of h rs ws)
head_shown h rs ws readings_fit writes_fit =
    let H : ℕ → ℕ → AccountHead = λ n m. record { interval = h.interval; timestamp = h.timestamp; readings = n; writes = m } in
    ap (λ n. H n h.writes) (sym (length-take-le h.readings rs readings_fit))
    ∙ ap (H (length (take h.readings rs))) (sym (length-take-le h.writes ws writes_fit))

-- The engine.

module _ (m : Meaning) (e : State) (p : ℕ) (within : p < length e.places) where
  -- the place is free, and notices and store are others
  pub committed :
      (freed : Place) (notices : Notices) (store : Meaning) → chain_at freed ≡ None →
      engine_over store (record e { places = set e.places p freed; notices = notices })
      ≡ model.with_place p None (model.with_store store (model.with_notices (notices_of notices) (engine_over m e)))
  committed freed notices store is =
      let E : (ℕ → Option model.Chain) → model.Engine =
      λ f. record { places = f; caches = (engine_over m e).caches; notices = notices_of notices; store = store } in
      ap E (item_set chain_at None e.places p freed within)
      ∙ ap (λ x. E (with_at p x (engine_over m e).places)) is

-- The step.

not_both : {X : Type 0} (h : AccountHead) (f : EngineFault) → ◌≡◌ {A = Result AccountHead EngineFault} (Ok h) (Err f) → X
not_both h f e = absurd cc

module _ (depth p l clock r w : ℕ) (rs : List ChainReading) (ws : List Write) (s : model.Engine) where
  abbrev pub stepped : WithEngine Account
  stepped = step_of depth (call.Commit p l clock r w) s

  -- a commit's answer, its caller's lists and an engine are the step's
  abbrev pub IsStepped : Result AccountHead EngineFault → CallersLists → model.Engine → Type 0
  IsStepped q lists t =
      ◌≡◌ {A = (Result AccountHead EngineFault × CallersLists) × model.Engine} ((q, lists), t) (answer_and_lists rs ws stepped.0, stepped.1)

  abbrev stepped_for_caller : WithEngine Account → (Result AccountHead EngineFault × CallersLists) × model.Engine
  stepped_for_caller d = (answer_and_lists rs ws d.0, d.1)

  -- of a refused commit
  pub commit_refused :
      (t t' : model.Engine) (q : Result AccountHead EngineFault) (f f' : EngineFault) → t ≡ t' → q ≡ Err f → f ≡ f' →
      ◌≡◌ {A = WithEngine Account} (Err f', t') stepped → IsStepped q (rs, ws) t
  commit_refused t t' q f f' left is same stepped_so =
      let P : Result AccountHead EngineFault → (Result AccountHead EngineFault × CallersLists) × model.Engine = λ x. ((x, (rs, ws)), t) in
      let Q : model.Engine → (Result AccountHead EngineFault × CallersLists) × model.Engine = λ u. ((Err f', (rs, ws)), u) in
      ap P (is ∙ ap Err same) ∙ ap Q left ∙ ap stepped_for_caller stepped_so

  -- of an accepted one
  pub commit_accepted :
      (t t' : model.Engine) (q : Result AccountHead EngineFault) (lists : CallersLists) (a : Account) → t ≡ t' →
      (q, lists) ≡ answer_and_lists rs ws (Ok a) → ◌≡◌ {A = WithEngine Account} (Ok a, t') stepped → IsStepped q lists t
  commit_accepted t t' q lists a left is stepped_so =
      let P : Result AccountHead EngineFault × CallersLists → (Result AccountHead EngineFault × CallersLists) × model.Engine = λ x. (x, t) in
      let Q : model.Engine → (Result AccountHead EngineFault × CallersLists) × model.Engine = λ u. (answer_and_lists rs ws (Ok a), u) in
      ap P is ∙ ap Q left ∙ ap stepped_for_caller stepped_so

  -- The account keeps its law, in every trace that led to the engine.

  abbrev KeepsLaw : Account → Type 0
  KeepsLaw a = InEveryTrace depth s (λ store trace. AddsAccount store trace p l clock r w a)

  stepped_law : (a : Account) → stepped.0 ≡ Ok a → KeepsLaw a
  stepped_law a is store trace of_depth led =
      let c = call.Commit p l clock r w in
      let answer : answer_in (step the_rules store.depth c s) ≡ Ok a = ap (λ d. answer_in (step the_rules d c s)) of_depth ∙ is in
      let law = (the_rules_lawful.one_more_call store trace s c led).commits.0 p l clock r w a (ap (event c) answer) in
      subst (λ q. AccountLaw the_rules store (history_of (event c q ∷ trace)) trace p l clock a) answer law

  answer_law :
      (q : Result AccountHead EngineFault) (lists : CallersLists) (d : Result Account EngineFault) → (q, lists) ≡ answer_and_lists rs ws d →
      stepped.0 ≡ d → IfOk q (λ h. KeepsLaw (account_of h lists.0 lists.1))
  answer_law (Ok h) lists (Ok a) is same = subst KeepsLaw (sym (lists_show rs ws a h lists is)) (stepped_law a same)
  answer_law (Ok h) lists (Err f) is same = not_both h f (ap (λ t. t.0) is)
  answer_law (Err f) lists d is same = tt

  pub commit_law :
      (q : Result AccountHead EngineFault) (lists : CallersLists) (t : model.Engine) → IsStepped q lists t →
      IfOk q (λ h. KeepsLaw (account_of h lists.0 lists.1))
  commit_law q lists t handed = answer_law q lists stepped.0 (ap (λ x. x.0) handed) refl

  -- The reply is that of the step.

  pub commit_replies :
      (q : Result AccountHead EngineFault) (lists : CallersLists) (t : model.Engine) → IsStepped q lists t →
      Replies (call.Commit p l clock r w) (account_in q lists.0 lists.1)
  commit_replies q lists t handed =
      let c = call.Commit p l clock r w in
      subst (Replies c) (sym (account_shown rs ws q lists stepped.0 (ap (λ x. x.0) handed))) (replies depth c s)

-- The leg that commits.

fitting :
    (only fits : Bool) (leg o : model.OpenLeg) (f g : EngineFault) → (if only then if fits then Ok leg else Err f else Err g) ≡ Ok o →
    (fits ≡ true) × (leg ≡ o)
fitting true true leg o f g e = (refl, cc e)
fitting true false leg o f g e = absurd (cc e)
fitting false fits leg o f g e = absurd (cc e)

there_is_room :
    (n : Named) (r w : ℕ) (c : model.Chain) (state : model.LegState) (o : model.OpenLeg) →
    on_open {Z = Result model.OpenLeg EngineFault} state (Err (chain_fault n.place n.leg n.key NotOpen)) (λ leg.
    if only_open n.leg c.legs leg_count
    then if nat_le (length c.readings) r && nat_le (length leg.writes) w then Ok leg else Err (chain_fault n.place n.leg n.key TooShort)
    else Err (chain_fault n.place n.leg n.key AnotherLegOpen))
    ≡ Ok o →
    (nat_le (length c.readings) r && nat_le (length o.writes) w) ≡ true
there_is_room n r w c model.unused o e = absurd cc
there_is_room n r w c (model.running leg) o e =
    let fits = fitting _ _ leg o _ _ e in
    subst (λ x. (nat_le (length c.readings) r && nat_le (length x.writes) w) ≡ true) fits.1 fits.0
there_is_room n r w c model.ended o e = absurd cc

-- the lists have room for it
pub has_room :
    (n : Named) (r w : ℕ) (c : model.Chain) (o : model.OpenLeg) → committing_leg n r w c ≡ Ok o →
    (nat_le (length c.readings) r && nat_le (length o.writes) w) ≡ true
has_room n r w c o e = there_is_room n r w c (c.legs n.leg) o e

-- What is known of a call that found the chain at its place.
module _ (m : Meaning) (depth : ℕ) (e : State) (n : Named) (clock r w : ℕ) (chain : Chain)
    (no_key : n ≡ naming n.place n.leg not_named) (range : leg_in_range n ≡ true)
    (here : (engine_over m e).places n.place ≡ Some (chain_of chain)) where
  abbrev before : model.Engine
  before = engine_over m e

  abbrev of_call : WithEngine Account
  of_call = step_of depth (call.Commit n.place n.leg clock r w) before

  decided :
      commit_made depth n.place n.leg clock (chain_of chain) before (committing_leg (naming n.place n.leg not_named) r w (chain_of chain))
      ≡ of_call
  decided = commit_is_step depth n.place n.leg clock r w before (chain_of chain) range here

  -- which leg commits, if one does
  found :
      (q : Result (Bor OpenLeg) EngineFault) (leg : Result model.OpenLeg EngineFault) →
      result_map_both lent_leg (λ f. f) q ≡ committing_leg n r w (chain_of chain) → result_map_both lent_leg (λ f. f) q ≡ leg →
      leg ≡ committing_leg (naming n.place n.leg not_named) r w (chain_of chain)
  found q leg ensured known = sym known ∙ ensured ∙ ap (λ k. committing_leg k r w (chain_of chain)) no_key

  -- none does
  pub none_commits :
      (q : Result (Bor OpenLeg) EngineFault) (f : EngineFault) →
      result_map_both lent_leg (λ f. f) q ≡ committing_leg n r w (chain_of chain) → q ≡ Err f →
      ◌≡◌ {A = WithEngine Account} (Err f, before) of_call
  none_commits q f ensured is =
      ap (commit_made depth n.place n.leg clock (chain_of chain) before)
      (found q (Err f) ensured (ap (result_map_both lent_leg (λ f. f)) is))
      ∙ decided

  -- one does, and the store answers this
  pub one_commits :
      (q : Result (Bor OpenLeg) EngineFault) (last : Bor OpenLeg) →
      result_map_both lent_leg (λ f. f) q ≡ committing_leg n r w (chain_of chain) → q ≡ Ok last → (written : List Write) →
      written ≡ (lent_leg last).writes → (answer known : Result ℕ Fault) (store : Meaning) (notices : model.Notices) →
      (answer, (store, notices)) ≡ given_to_store depth clock written before.caches (before.store, before.notices) → answer ≡ known →
      account_made n.place n.leg (chain_of chain) (lent_leg last) before (known, (store, notices)) ≡ of_call
  one_commits q last ensured is written are answer known store notices handed is_known =
      let In : GivenToStore → WithEngine Account = account_made n.place n.leg (chain_of chain) (lent_leg last) before in
      let With : Result ℕ Fault → GivenToStore = λ x. (x, (store, notices)) in
      ap In
      (ap With (sym is_known) ∙ handed ∙ ap (λ xs. given_to_store depth clock xs before.caches (before.store, before.notices)) are)
      ∙ ap (commit_made depth n.place n.leg clock (chain_of chain) before)
      (found q (Ok (lent_leg last)) ensured (ap (result_map_both lent_leg (λ f. f)) is))
      ∙ decided

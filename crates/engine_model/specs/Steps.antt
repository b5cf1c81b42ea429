-- One step of an engine: from its state and a call to the answer and the state after it. Each call's checks stand in the
-- order of the refusals' numbers, and a refused call leaves the state as it is.
use Rattle.std.specs.Prelude.{ℕ, zero, suc, Bool, true, if◌then◌else◌, not, ◌&&◌, ◌||◌, List, [], ◌∷◌, map, length, Some, None, Ok, Err, Option, Result, ◌==◌, nat_le, nat_lt}
use Rattle.std.specs.List.{slice_get}
use Rattle.snapshot.specs.Accounts.{Account}
use Rattle.snapshot.specs.Intervals.{joined_or_refused}
use Rattle.snapshot.specs.Limits.{leg_count, is_key, is_worker, is_place, is_leg}
use Rattle.snapshot.specs.Refusals.{not_named, own_fault, around_store, unnamed}
use Rattle.snapshot.specs.declared.account.ChainReading.{ChainReading}
use Rattle.snapshot.specs.declared.account.Reading.{Reading}
use Rattle.snapshot.specs.declared.account.Write.{Write}
use Rattle.snapshot.specs.declared.fault.EngineFault.{EngineFault}
use Rattle.snapshot.specs.declared.fault.Layer.TheVariants as layer
use Rattle.snapshot.specs.declared.fault.Refusal.{Refusal}
use Rattle.snapshot.specs.declared.fault.Refusal.TheVariants.{OutOfRange, PlaceOccupied, NotOpen, SameLeg, TooManyLegs, WriteSetFull, ReadingsFull, AnotherLegOpen, TooShort, NoSuchNotice}
use Rattle.snapshot.specs.declared.interval.Interval.{Interval}
use Rattle.store.specs.Meaning.{commit_answer_by, with_writes, after_prune, written_to}
use Rattle.engine_model.specs.Caches.{Cache, entry_of}
use Rattle.engine_model.specs.Engines.{OpenLeg, LegState, unused, running, ended, is_running, on_worker, with_write_set, with_interval, Chain, with_leg, end_leg, open_leg, add_reading, new_chain, without_notice, Engine, with_place, with_cache, with_notices, with_store}
use Rattle.engine_model.specs.Notices.{raise_all}
use Rattle.engine_model.specs.Rules.{Rules}
use Rattle.engine_model.specs.declared.calls.Call.{Call}
use Rattle.engine_model.specs.declared.calls.Call.TheVariants as call
use Rattle.engine_model.specs.declared.records.LegReading.{LegReading}
use Rattle.engine_model.specs.declared.records.Notice.{Notice}

-- What comes of a call.

-- what an accepted call answers: begin, hand and join the new leg's number, fork both numbers, read a value, commit an
-- account, count the waiting and the lost; the others nothing but that they are accepted
abbrev pub AnswerTo : Call → Type 0
AnswerTo (call.Begin p w) = ℕ
AnswerTo (call.Hand p l w) = ℕ
AnswerTo (call.Fork p l w v) = ℕ × ℕ
AnswerTo (call.Join p l j w) = ℕ
AnswerTo (call.Read p l k) = ℕ
AnswerTo (call.Write p l k x) = Unit {0}
AnswerTo (call.Commit p l c r w) = Account
AnswerTo (call.Abandon p) = Unit {0}
AnswerTo (call.Deliver i) = Unit {0}
AnswerTo (call.Discard i) = Unit {0}
AnswerTo call.Count = ℕ × ℕ
AnswerTo (call.Prune h) = Unit {0}

-- refused with a fault, or accepted with an answer and the state after it
pub data StepOutcome (X : Type 0) : Type 0 where
  refused : EngineFault → StepOutcome X
  accepted : X → Engine → StepOutcome X

-- what the call answers
abbrev pub answer_in : {X : Type 0} → StepOutcome X → Result X EngineFault
answer_in (refused f) = Err f
answer_in (accepted x s) = Ok x

-- what it leaves: a refused call leaves the engine as it was
abbrev pub engine_in : {X : Type 0} → Engine → StepOutcome X → Engine
engine_in s (refused f) = s
engine_in s (accepted x after) = after

-- What a step is built from. These stay shut unless a proof opens them, so that a step keeps its shape.

-- the fault of a call that named this place, leg and key
abbrev pub chain_fault : ℕ → ℕ → ℕ → Refusal → EngineFault
chain_fault p l k r = own_fault (record { refusal = r; layer = layer.Chain; place = p; leg = l; key = k })

-- refused unless the test passes
unfoldable pub check : {X : Type 0} → Bool → EngineFault → StepOutcome X → StepOutcome X
check ok f next = if ok then next else refused f

-- the chain at a place, or a refusal
unfoldable pub with_chain : {X : Type 0} → Option Chain → EngineFault → (Chain → StepOutcome X) → StepOutcome X
with_chain None f next = refused f
with_chain (Some c) f next = next c

-- a leg that is open, or a refusal
unfoldable pub with_open : {X : Type 0} → LegState → EngineFault → (OpenLeg → StepOutcome X) → StepOutcome X
with_open unused f next = refused f
with_open (running leg) f next = next leg
with_open ended f next = refused f

-- the open leg of a chain at a place, or a refusal
unfoldable pub with_open_leg : {X : Type 0} → Option Chain → ℕ → EngineFault → (Chain → OpenLeg → StepOutcome X) → StepOutcome X
unfolding with_chain with_open
with_open_leg c l f next = with_chain c f (λ chain. with_open (chain.legs l) f (λ leg. next chain leg))

-- no chain at a place, or a refusal
unfoldable pub if_free : {X : Type 0} → Option Chain → EngineFault → StepOutcome X → StepOutcome X
if_free None f next = next
if_free (Some c) f next = refused f

-- a result, or the refusal of its fault
unfoldable pub with_result : {X Y E : Type 0} → Result Y E → (E → EngineFault) → (Y → StepOutcome X) → StepOutcome X
with_result (Ok y) f next = next y
with_result (Err e) f next = refused (f e)

-- what is found, and what is done where nothing is
unfoldable pub or_else : {X Y : Type 0} → Option Y → (Y → StepOutcome X) → StepOutcome X → StepOutcome X
or_else None found next = next
or_else (Some y) found next = found y

-- Queries of a chain.

-- the reading of a key that this leg has made
abbrev pub own_reading : ℕ → ℕ → List LegReading → Option LegReading
own_reading l k [] = None
own_reading l k (r ∷ rs) = if r.leg == l && r.made.key == k then Some r else own_reading l k rs

-- of the legs below n none but l is open
abbrev pub only_open : ℕ → (ℕ → LegState) → ℕ → Bool
only_open l states zero = true
only_open l states (suc n) = (n == l || not (is_running (states n))) && only_open l states n

-- the chain after a reading on one of its legs: the leg's interval is narrowed, and the reading joins the others
abbrev pub after_reading : (Interval → Reading → Interval) → ℕ → ℕ → OpenLeg → Reading → Chain → Chain
after_reading narrow l k leg r c =
    let here : ChainReading = record { worker = leg.worker; key = k; reading = r } in
    add_reading (record { leg = l; made = here }) (with_leg l (running (with_interval (narrow leg.interval r) leg)) c)

-- the account of a chain that commits by this leg at this timestamp
abbrev pub account_for : Chain → OpenLeg → ℕ → Account
account_for chain leg t =
    record {
      low = leg.interval.low;
      high = leg.interval.high;
      timestamp = t;
      readings = map (λ r. r.made) chain.readings;
      writes = leg.writes;
    }

-- The calls.

module _ (rules : Rules) (depth : ℕ) where
  -- opens a chain at a free place
  abbrev pub begin_step : ℕ → ℕ → Engine → StepOutcome ℕ
  begin_step p w s =
      let no = chain_fault p not_named not_named in
      check (is_place p && is_worker w) (no OutOfRange)
      (if_free (s.places p) (no PlaceOccupied) (accepted 0 (with_place p (Some (new_chain w)) s)))

  -- ends a leg and opens the next at a worker, with the same interval and write set
  abbrev pub hand_step : ℕ → ℕ → ℕ → Engine → StepOutcome ℕ
  hand_step p l w s =
      let no = chain_fault p l not_named in
      check (is_place p && is_leg l && is_worker w) (no OutOfRange)
      (with_open_leg (s.places p) l (no NotOpen) (λ chain leg.
      check (nat_lt chain.opened leg_count) (no TooManyLegs)
      (accepted chain.opened (with_place p (Some (open_leg (on_worker w leg) (end_leg l chain))) s))))

  -- ends a leg and opens two
  abbrev pub fork_step : ℕ → ℕ → ℕ → ℕ → Engine → StepOutcome (ℕ × ℕ)
  fork_step p l w v s =
      let no = chain_fault p l not_named in
      check (is_place p && is_leg l && is_worker w && is_worker v) (no OutOfRange)
      (with_open_leg (s.places p) l (no NotOpen) (λ chain leg.
      check (nat_lt (suc chain.opened) leg_count) (no TooManyLegs)
      (accepted
      (chain.opened, suc chain.opened)
      (with_place p (Some (open_leg (on_worker v leg) (open_leg (on_worker w leg) (end_leg l chain)))) s))))

  -- ends two legs and opens one, with the times of both and the writes of both
  abbrev pub join_step : ℕ → ℕ → ℕ → ℕ → Engine → StepOutcome ℕ
  join_step p l j w s =
      let no = chain_fault p l not_named in
      check (is_place p && is_leg l && is_leg j && is_worker w) (no OutOfRange)
      (with_open_leg (s.places p) l (no NotOpen) (λ chain leg.
      with_open (chain.legs j) (no NotOpen) (λ other.
      check (not (l == j)) (no SameLeg)
      (check (nat_lt chain.opened leg_count) (no TooManyLegs)
      (with_result (joined_or_refused leg.interval other.interval) no (λ i.
      let ws = rules.write_sets.after_join leg.writes other.writes in
      check (nat_le (length ws) rules.limits.write_keys) (no WriteSetFull)
      (accepted
      chain.opened
      (with_place p
      (Some (open_leg (record { worker = w; interval = i; writes = ws }) (end_leg j (end_leg l chain))))
      s))))))))

  -- sets a key's value in the leg's write set
  abbrev pub write_step : ℕ → ℕ → ℕ → ℕ → Engine → StepOutcome (Unit {0})
  write_step p l k x s =
      let no = chain_fault p l k in
      check (is_place p && is_leg l && is_key k) (no OutOfRange)
      (with_open_leg (s.places p) l (no NotOpen) (λ chain leg.
      let ws = rules.write_sets.after_write (record { key = k; value = x }) leg.writes in
      check (nat_le (length ws) rules.limits.write_keys) (no WriteSetFull)
      (accepted tt (with_place p (Some (with_leg l (running (with_write_set ws leg)) chain)) s))))

  -- a reading answers: it is noted, and the worker's cache becomes this one
  abbrev pub answered_by : ℕ → ℕ → ℕ → Chain → OpenLeg → Reading → Cache → Engine → StepOutcome ℕ
  answered_by p l k chain leg r cache s =
      accepted r.value (with_cache leg.worker cache (with_place p (Some (after_reading rules.narrow l k leg r chain)) s))

  -- asks the cache, then the store at the high end of the leg's interval
  abbrev pub look_further : ℕ → ℕ → ℕ → Chain → OpenLeg → Engine → StepOutcome ℕ
  look_further p l k chain leg s =
      let cache = s.caches leg.worker in
      or_else (rules.caches.answer leg.interval k cache)
      (λ e. answered_by p l k chain leg e.reading (rules.caches.after_use e cache) s)
      (with_result (rules.version s.store k leg.interval.high) (λ f. around_store f p l k) (λ r.
      answered_by p l k chain leg r (rules.caches.after_store leg.interval.high (entry_of k r) cache) s))

  -- answers from the write set, else from the leg's own readings, else from cache or store
  abbrev pub read_step : ℕ → ℕ → ℕ → Engine → StepOutcome ℕ
  read_step p l k s =
      let no = chain_fault p l k in
      check (is_place p && is_leg l && is_key k) (no OutOfRange)
      (with_open_leg (s.places p) l (no NotOpen) (λ chain leg.
      or_else (written_to k leg.writes) (λ x. accepted x s)
      (or_else (own_reading l k chain.readings) (λ r. accepted r.made.reading.value s)
      (check (nat_lt (length chain.readings) rules.limits.readings) (no ReadingsFull)
      (look_further p l k chain leg s)))))

  -- the engine after the store took the writes at this timestamp, with the notices of them raised
  abbrev pub after_store_commit : List Write → ℕ → Engine → Engine
  after_store_commit ws t s =
      with_store (with_writes depth t ws s.store)
      (with_notices (raise_all rules.caches.holds_key s.caches t ws s.notices) s)

  -- hands the writes to the store; with no writes the store is not asked
  abbrev pub handed_to_store : ℕ → ℕ → ℕ → Chain → OpenLeg → List Write → Engine → StepOutcome Account
  handed_to_store p l clock chain leg [] s = accepted (account_for chain leg 0) (with_place p None s)
  handed_to_store p l clock chain leg (w ∷ ws) s =
      with_result (commit_answer_by rules.timestamps depth clock (w ∷ ws) s.store) (λ f. around_store f p l not_named) (λ t.
      accepted (account_for chain leg t) (with_place p None (after_store_commit (w ∷ ws) t s)))

  -- commits a chain by its only open leg
  abbrev pub commit_step : ℕ → ℕ → ℕ → ℕ → ℕ → Engine → StepOutcome Account
  commit_step p l clock r w s =
      let no = chain_fault p l not_named in
      check (is_place p && is_leg l) (no OutOfRange)
      (with_open_leg (s.places p) l (no NotOpen) (λ chain leg.
      check (only_open l chain.legs leg_count) (no AnotherLegOpen)
      (check (nat_le (length chain.readings) r && nat_le (length leg.writes) w) (no TooShort)
      (handed_to_store p l clock chain leg leg.writes s))))

  -- frees a place
  abbrev pub abandon_step : ℕ → Engine → StepOutcome (Unit {0})
  abandon_step p s =
      let no = chain_fault p not_named not_named in
      check (is_place p) (no OutOfRange)
      (with_chain (s.places p) (no NotOpen) (λ chain. accepted tt (with_place p None s)))

  -- the notice at a position, or a refusal
  abbrev pub with_notice_at : ℕ → Engine → (Notice → StepOutcome (Unit {0})) → StepOutcome (Unit {0})
  with_notice_at i s next =
      or_else (slice_get s.notices.waiting i) next (refused (own_fault (unnamed NoSuchNotice layer.Notices)))

  -- shows a notice to its worker's cache, and leaves it waiting
  abbrev pub deliver_step : ℕ → Engine → StepOutcome (Unit {0})
  deliver_step i s =
      with_notice_at i s (λ n.
      accepted tt (with_cache n.worker (rules.caches.after_notice n (s.caches n.worker)) s))

  -- removes a notice
  abbrev pub discard_step : ℕ → Engine → StepOutcome (Unit {0})
  discard_step i s =
      with_notice_at i s (λ _.
      accepted tt (with_notices (without_notice i s.notices) s))

  -- how many notices wait, and how many were lost
  abbrev pub count_step : Engine → StepOutcome (ℕ × ℕ)
  count_step s = accepted (length s.notices.waiting, s.notices.lost) s

  -- the store's prune
  abbrev pub prune_step : ℕ → Engine → StepOutcome (Unit {0})
  prune_step h s = accepted tt (with_store (after_prune h s.store) s)

  -- each call by its own rule
  abbrev pub step : (c : Call) → Engine → StepOutcome (AnswerTo c)
  step (call.Begin p w) s = begin_step p w s
  step (call.Hand p l w) s = hand_step p l w s
  step (call.Fork p l w v) s = fork_step p l w v s
  step (call.Join p l j w) s = join_step p l j w s
  step (call.Read p l k) s = read_step p l k s
  step (call.Write p l k x) s = write_step p l k x s
  step (call.Commit p l c r w) s = commit_step p l c r w s
  step (call.Abandon p) s = abandon_step p s
  step (call.Deliver i) s = deliver_step i s
  step (call.Discard i) s = discard_step i s
  step call.Count s = count_step s
  step (call.Prune h) s = prune_step h s

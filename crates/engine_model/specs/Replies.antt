-- What each call can be replied, in numbers and values: an accepted call its answer, a refused one the number of its refusal with
-- the layer, the place, the leg and the key of its fault. The table below has every refusal of every call.
use Rattle.std.specs.Prelude.{◌≡◌, ℕ, suc, ◌<◌, ◌⊎◌, List, [], ◌∷◌, ◌++◌, Some, None, Ok, Err, Option, Result, Contains}
use Rattle.std.specs.Option.{option_map}
use Rattle.snapshot.specs.Accounts.{Account}
use Rattle.snapshot.specs.Limits.{leg_count}
use Rattle.snapshot.specs.Refusals.{refusal_number}
use Rattle.snapshot.specs.declared.fault.EngineFault.{EngineFault}
use Rattle.snapshot.specs.declared.fault.Fault.{Fault}
use Rattle.snapshot.specs.declared.fault.Layer.{Layer}
use Rattle.snapshot.specs.declared.fault.Layer.TheVariants as layer
use Rattle.engine_model.specs.Rules.{the_rules}
use Rattle.engine_model.specs.Steps.{AnswerTo}
use Rattle.engine_model.specs.Traces.{Trace, AtEach, NewStore, ByRules}
use Rattle.engine_model.specs.declared.calls.Call.{Call}
use Rattle.engine_model.specs.declared.calls.Call.TheVariants as call

-- Replies.

-- a fault in numbers: the refusal's number, the layer that refused first, and the place, leg and key
pub record FaultValues : Type 0 where
  pub number : ℕ
  pub layer : Layer
  pub place : ℕ
  pub leg : ℕ
  pub key : ℕ

-- of an accepted call a leg's number, both numbers of a fork, a value, an account, how many notices wait and were lost, or that it
-- is done; of a refused one its fault, and where the store refused, the store's own fault
pub data Reply : Type 0 where
  leg : ℕ → Reply
  legs : ℕ → ℕ → Reply
  value : ℕ → Reply
  account : Account → Reply
  counts : ℕ → ℕ → Reply
  done : Reply
  refused : FaultValues → Option FaultValues → Reply

abbrev pub fault_numbers : Fault → FaultValues
fault_numbers f = record { number = refusal_number f.refusal; layer = f.layer; place = f.place; leg = f.leg; key = f.key }

-- the reply to an accepted call, and to a refused one
abbrev pub reply_by : (c : Call) → AnswerTo c → Reply
reply_by (call.Begin p w) n = leg n
reply_by (call.Hand p l w) n = leg n
reply_by (call.Fork p l w v) ns = legs ns.0 ns.1
reply_by (call.Join p l j w) n = leg n
reply_by (call.Read p l k) x = value x
reply_by (call.Write p l k x) u = done
reply_by (call.Commit p l c r w) a = account a
reply_by (call.Abandon p) u = done
reply_by (call.Deliver i) u = done
reply_by (call.Discard i) u = done
reply_by call.Count n = counts n.0 n.1
reply_by (call.Prune h) u = done

abbrev pub refusal_reply : EngineFault → Reply
refusal_reply f = refused (fault_numbers f.fault) (option_map fault_numbers f.of_store)

abbrev pub reply_of : (c : Call) → Result (AnswerTo c) EngineFault → Reply
reply_of c (Ok x) = reply_by c x
reply_of c (Err f) = refusal_reply f

-- Accepted calls.

-- the reply is an answer to the call: begin opens leg 0, hand and join open one leg and fork two that follow one another; read
-- answers a value, commit an account, and count two numbers; the others are done
abbrev pub IsAnswerTo : Call → Reply → Type 0
IsAnswerTo (call.Begin p w) r = r ≡ leg 0
IsAnswerTo (call.Hand p l w) r = (n : ℕ) × (n < leg_count) × (r ≡ leg n)
IsAnswerTo (call.Fork p l w v) r = (n : ℕ) × (suc n < leg_count) × (r ≡ legs n (suc n))
IsAnswerTo (call.Join p l j w) r = (n : ℕ) × (n < leg_count) × (r ≡ leg n)
IsAnswerTo (call.Read p l k) r = (x : ℕ) × (r ≡ value x)
IsAnswerTo (call.Write p l k x) r = r ≡ done
IsAnswerTo (call.Commit p l c rs ws) r = (a : Account) × (r ≡ account a)
IsAnswerTo (call.Abandon p) r = r ≡ done
IsAnswerTo (call.Deliver i) r = r ≡ done
IsAnswerTo (call.Discard i) r = r ≡ done
IsAnswerTo call.Count r = (n : ℕ) × (m : ℕ) × (r ≡ counts n m)
IsAnswerTo (call.Prune h) r = r ≡ done

-- Refused calls.

-- Each of these takes the refusal's number, and the place, leg and key with which it is shown: as the call named them, and 255 for
-- what the call lacks or has several of.

abbrev pub fault_values : ℕ → Layer → ℕ → ℕ → ℕ → FaultValues
fault_values number by p l k = record { number = number; layer = by; place = p; leg = l; key = k }

-- refused by the chain or by the notices, with no store's fault inside
abbrev pub by_chain : ℕ → ℕ → ℕ → ℕ → Reply
by_chain number p l k = refused (fault_values number layer.Chain p l k) None

abbrev pub by_notices : ℕ → ℕ → ℕ → ℕ → Reply
by_notices number p l k = refused (fault_values number layer.Notices p l k) None

-- refused by the store: its own fault has the same number, and the last argument for its key
abbrev pub by_store : ℕ → ℕ → ℕ → ℕ → ℕ → Reply
by_store number p l k store_key =
    refused (fault_values number layer.Store p l k) (Some (fault_values number layer.Store 255 255 store_key))

-- the refusals that a call may be answered with in a trace, and no others
abbrev pub refusals_of : Call → List Reply
refusals_of (call.Begin p w) = by_chain 1 p 255 255 ∷ by_chain 2 p 255 255 ∷ []
refusals_of (call.Hand p l w) = by_chain 1 p l 255 ∷ by_chain 3 p l 255 ∷ by_chain 5 p l 255 ∷ []
refusals_of (call.Fork p l w v) = by_chain 1 p l 255 ∷ by_chain 3 p l 255 ∷ by_chain 5 p l 255 ∷ []
refusals_of (call.Join p l j w) =
    by_chain 1 p l 255 ∷ by_chain 3 p l 255 ∷ by_chain 4 p l 255 ∷ by_chain 5 p l 255 ∷ by_chain 6 p l 255 ∷ by_chain 7 p l 255 ∷ []
refusals_of (call.Read p l k) = by_chain 1 p l k ∷ by_chain 3 p l k ∷ by_chain 8 p l k ∷ by_store 15 p l k k ∷ []
refusals_of (call.Write p l k x) = by_chain 1 p l k ∷ by_chain 3 p l k ∷ by_chain 7 p l k ∷ []
refusals_of (call.Commit p l c r w) =
    by_chain 1 p l 255 ∷ by_chain 3 p l 255 ∷ by_chain 9 p l 255 ∷ by_chain 10 p l 255
    ∷ by_store 12 p l 255 255 ∷ by_store 13 p l 255 255 ∷ by_store 14 p l 255 255 ∷ []
refusals_of (call.Abandon p) = by_chain 1 p 255 255 ∷ by_chain 3 p 255 255 ∷ []
refusals_of (call.Deliver i) = by_notices 16 255 255 255 ∷ []
refusals_of (call.Discard i) = by_notices 16 255 255 255 ∷ []
refusals_of call.Count = []
refusals_of (call.Prune h) = []

-- An engine's value to which no trace leads may have a leg whose interval ends past the open end, or whose writes are not fit;
-- there the store refuses for that.
abbrev pub refusals_outside_traces : Call → List Reply
refusals_outside_traces (call.Read p l k) = by_store 1 p l k k ∷ []
refusals_outside_traces (call.Commit p l c r w) = by_store 11 p l 255 255 ∷ []
refusals_outside_traces c = []

-- Both.

-- the call can have this reply: an answer of its kind, or one of its refusals
abbrev pub CanReply : Call → Reply → Type 0
CanReply c r = IsAnswerTo c r ⊎ Contains (refusals_of c ++ refusals_outside_traces c) r

-- and in a trace
abbrev pub CanReplyInTrace : Call → Reply → Type 0
CanReplyInTrace c r = IsAnswerTo c r ⊎ Contains (refusals_of c) r

-- so of what a call answers
abbrev pub Replies : (c : Call) → Result (AnswerTo c) EngineFault → Type 0
Replies c q = CanReply c (reply_of c q)

-- so of each event of every trace by the rules in force
abbrev pub RepliesInEveryTrace : Type 0
RepliesInEveryTrace =
    (store : NewStore) (trace : Trace) → ByRules the_rules store trace →
    AtEach (λ e before. CanReplyInTrace e.called (reply_of e.called e.answer)) trace

-- Traces as another implementation of the rules answered them, line by line, and what it is for the model to agree.
use Rattle.std.specs.Prelude.{◌≡◌, ℕ, List, [], ◌∷◌, map, None}
use Rattle.snapshot.specs.declared.account.ChainReading.{ChainReading}
use Rattle.snapshot.specs.declared.account.Write.{Write}
use Rattle.snapshot.specs.declared.fault.Layer.{Layer}
use Rattle.engine_model.specs.Replies as reply
use Rattle.engine_model.specs.Replies.{Reply, leg, legs, value, account, counts, done, fault_values, reply_of}
use Rattle.engine_model.specs.Traces.{Trace, NewStore, trace_of}
use Rattle.engine_model.specs.Rules.{the_rules}
use Rattle.engine_model.specs.declared.calls.Call.{Call}

-- The replies as the vectors have them: an account by its low, high, timestamp, readings and writes; a refusal by its number, layer,
-- place, leg and key, without the store's own fault inside.

abbrev pub account_reply : ℕ → ℕ → ℕ → List ChainReading → List Write → Reply
account_reply low high t rs ws = account (record { low = low; high = high; timestamp = t; readings = rs; writes = ws })

abbrev pub refused_reply : ℕ → Layer → ℕ → ℕ → ℕ → Reply
refused_reply number by p l k = reply.refused (fault_values number by p l k) None

abbrev pub without_store_fault : Reply → Reply
without_store_fault (leg n) = leg n
without_store_fault (legs n m) = legs n m
without_store_fault (value x) = value x
without_store_fault (account a) = account a
without_store_fault (counts n m) = counts n m
without_store_fault done = done
without_store_fault (reply.refused v inside) = reply.refused v None

-- the replies of a trace, the earliest first, with more behind them
abbrev pub replies_in : Trace → List Reply → List Reply
replies_in [] more = more
replies_in (e ∷ before) more = replies_in before (without_store_fault (reply_of e.called e.answer) ∷ more)

-- a trace over a new store: its calls in order, each with the reply that another implementation gave
pub record Vector : Type 0 where
  pub over : NewStore
  pub lines : List (Call × Reply)

-- by the rules the trace of these calls has the same replies
abbrev pub Matches : Vector → Type 0
Matches v = replies_in (trace_of the_rules v.over (map (λ l. l.0) v.lines)) [] ≡ map (λ l. l.1) v.lines

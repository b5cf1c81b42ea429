-- Commits: which leg can commit, what the store and the notices make of its writes, and what is handed back to the caller.
use Rattle.std.specs.Prelude.{ℕ, if◌then◌else◌, ◌&&◌, List, [], ◌∷◌, length, Ok, Err, Result, nat_le}
use Rattle.snapshot.specs.Accounts.{Account, head_of, account_of}
use Rattle.snapshot.specs.Limits.{leg_count}
use Rattle.snapshot.specs.Overwriting.{overwritten}
use Rattle.snapshot.specs.declared.account.AccountHead.{AccountHead}
use Rattle.snapshot.specs.declared.account.ChainReading.{ChainReading}
use Rattle.snapshot.specs.declared.account.Write.{Write}
use Rattle.snapshot.specs.declared.fault.EngineFault.{EngineFault}
use Rattle.snapshot.specs.declared.fault.Fault.{Fault}
use Rattle.snapshot.specs.declared.fault.Refusal.TheVariants.{NotOpen, AnotherLegOpen, TooShort}
use Rattle.store.specs.Meaning.{Meaning, commit_answer, with_writes}
use Rattle.engine_model.specs.Caches.{Cache, holds}
use Rattle.engine_model.specs.Engines.{OpenLeg, Chain, Notices}
use Rattle.engine_model.specs.Notices.{raise_all}
use Rattle.engine_model.specs.Steps.{chain_fault, only_open}
use Rattle.engine.specs.ChainCalls.{on_open}
use Rattle.engine.specs.Legs.{on_result}
use Rattle.engine.specs.declared.named.Named.{Named}

-- the leg that commits: it is the only open one, and lists of lengths r and w have room for the chain's readings and its writes
abbrev pub committing_leg : Named → ℕ → ℕ → Chain → Result OpenLeg EngineFault
committing_leg n r w c =
    let no = chain_fault n.place n.leg n.key in
    on_open (c.legs n.leg) (Err (no NotOpen)) (λ leg.
    if only_open n.leg c.legs leg_count
    then if nat_le (length c.readings) r && nat_le (length leg.writes) w then Ok leg else Err (no TooShort)
    else Err (no AnotherLegOpen))

-- the store takes the writes, and their notices are raised; with no writes the store is not called, and the answer is 0
abbrev pub given_to_store : ℕ → ℕ → List Write → (ℕ → Cache) → Meaning × Notices → Result ℕ Fault × (Meaning × Notices)
given_to_store depth clock [] caches before = (Ok 0, before)
given_to_store depth clock (w ∷ ws) caches before =
    on_result (commit_answer depth clock (w ∷ ws) before.0) (λ f. (Err f, before)) (λ t.
    (Ok t, (with_writes depth t (w ∷ ws) before.0, raise_all (λ k c. holds k c) caches t (w ∷ ws) before.1)))

-- what a commit answers, and its caller's two lists afterwards: the five numbers of the account, and its readings and its writes
-- at the starts of the lists, whose rest stays; a refused commit leaves both lists as they were
abbrev pub answer_and_lists :
    List ChainReading → List Write → Result Account EngineFault → Result AccountHead EngineFault × (List ChainReading × List Write)
answer_and_lists rs ws (Ok a) = (Ok (head_of a), (overwritten a.readings rs, overwritten a.writes ws))
answer_and_lists rs ws (Err f) = (Err f, (rs, ws))

-- the account that a commit's answer and its caller's lists hold, or its refusal
abbrev pub account_in : Result AccountHead EngineFault → List ChainReading → List Write → Result Account EngineFault
account_in (Ok h) rs ws = Ok (account_of h rs ws)
account_in (Err f) rs ws = Err f

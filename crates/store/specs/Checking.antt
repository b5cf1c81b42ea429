-- What the check of a commit answers.
use Rattle.std.specs.Prelude.{◌≡◌, ℕ, List, Ok, Err, Result}
use Rattle.snapshot.specs.declared.account.Write.{Write}
use Rattle.snapshot.specs.declared.fault.Fault.{Fault}
use Rattle.store.specs.Meaning.{timestamp_for}
use Rattle.store.specs.declared.update.Update.{Update}

-- the same writes, with the timestamp that they get, or why they get none
abbrev pub Checked : ℕ → List Write → ℕ → Result Update Fault → Type 0
Checked clock ws last (Ok u) = (timestamp_for clock ws last ≡ Ok u.timestamp) × (u.writes.now ≡ ws)
Checked clock ws last (Err e) = timestamp_for clock ws last ≡ Err e

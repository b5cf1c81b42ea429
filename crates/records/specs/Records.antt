-- Lists of records, oldest first: the versions that they hold of each key, and what is left when each key drops some.
use Rattle.std.specs.Prelude.{ℕ, zero, suc, Bool, if◌then◌else◌, List, [], ◌∷◌, ◌++◌, map, Ok, Err, filter, Result, ◌==◌, nat_lt, nat_le}
use Rattle.snapshot.specs.declared.fault.Fault.{Fault}
use Rattle.snapshot.specs.declared.fault.Refusal.TheVariants.{CapacityExceeded}
use Rattle.snapshot.specs.declared.account.Write.{Write}
use Rattle.store.specs.Meaning.{version_of, store_fault}
use Rattle.store.specs.declared.version.Version.{Version}
use Rattle.records.specs.PerKeys.{one_less}
use Rattle.records.specs.declared.record.Record.{Record}

abbrev pub record_of : ℕ → ℕ → ℕ → Record
record_of k t x = record { key = k; timestamp = t; value = x }

abbrev pub no_record : Record
no_record = record_of 0 0 0

-- the record of a write at a timestamp
abbrev pub written : ℕ → Write → Record
written t w = record_of w.key t w.value

-- What each key has, and what it drops.

abbrev pub has_key : ℕ → Record → Bool
has_key k r = r.key == k

abbrev pub record_version : Record → Version
record_version r = version_of r.timestamp r.value

-- the versions of a key
abbrev pub of_key : ℕ → List Record → List Version
of_key k rs = map record_version (filter (has_key k) rs)

-- what is left when each key drops its first records, so many as are named for it
abbrev pub drop_firsts : (ℕ → ℕ) → List Record → List Record
drop_firsts e [] = []
drop_firsts e (r ∷ rs) =
    if nat_lt 0 (e r.key) then drop_firsts (one_less e r.key) rs else r ∷ drop_firsts e rs

-- refused where there is no room for so many
abbrev pub if_fits : ℕ → ℕ → Result (Unit {0}) Fault
if_fits count room = if nat_le count room then Ok tt else Err (store_fault CapacityExceeded)

-- the list of a new store, of the keys below n: value 0 at time 0 for each key
unfoldable pub first_records : ℕ → List Record
first_records zero = []
first_records (suc n) = first_records n ++ (record_of n 0 0 ∷ [])

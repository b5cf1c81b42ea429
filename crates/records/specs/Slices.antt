-- A slice of records as the memory of a store.
use Rattle.std.specs.Prelude.{◌≡◌, ℕ, ◌-◌, Bool, ◌&&◌, List, ◌++◌, length, drop, replicate, ◌==◌, nat_le}
use Rattle.std.specs.List.{list_all}
use Rattle.snapshot.specs.Limits.{least_records, most_records}
use Rattle.records.specs.Records.{no_record}
use Rattle.records.specs.declared.record.Record.{Record}

-- which numbers of records are fit for a table
abbrev pub is_table_size : ℕ → Bool
is_table_size n = nat_le least_records n && nat_le n most_records

abbrev pub is_zero : Record → Bool
is_zero r = r.key == 0 && r.timestamp == 0 && r.value == 0

-- all that comes after the first n is zero
abbrev pub zeros_after : List Record → ℕ → Bool
zeros_after mem n = list_all is_zero (drop n mem)

-- the memory holds these records from its start, and zeros after them
abbrev pub LiesIn : List Record → List Record → Type 0
LiesIn rs mem = mem ≡ rs ++ replicate (length mem - length rs) no_record

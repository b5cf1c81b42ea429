-- A table: which memory is fit for it, what it means, and what its memory holds.
use Rattle.std.specs.Prelude.{◌≡◌, ℕ, if◌then◌else◌, List, length, take, Ok, Err, Result}
use Rattle.snapshot.specs.declared.fault.Fault.{Fault}
use Rattle.snapshot.specs.declared.fault.Refusal.TheVariants.{UnfitMemory}
use Rattle.store.specs.Meaning.{Meaning, store_fault}
use Rattle.records.specs.Layouts.{ListsVersions, capacity_for, records_meaning}
use Rattle.records.specs.declared.record.Record.{Record}
use Rattle.records.specs.Slices.{LiesIn, is_table_size}

-- a table's memory is checked by a call of its own
abbrev pub memory_check : ℕ → Result (Unit {0}) Fault
memory_check size = if is_table_size size then Ok tt else Err (store_fault UnfitMemory)

-- as many versions as the memory has records; 64 in unfit memory, so that no commit fits
abbrev pub capacity_of : ℕ → ℕ
capacity_of size = capacity_for (is_table_size size) size

-- of memory of which the first n records are kept
abbrev pub table_meaning : List Record → ℕ → ℕ → Meaning
table_meaning mem n last = records_meaning (is_table_size (length mem)) (length mem) (take n mem) last

-- the memory holds the kept versions from the start, by timestamp, then key, and zeros after them
pub record LaidOut (m : Meaning) (mem : List Record) : Type 0 where
  pub front : List Record
  pub lists : ListsVersions m front
  pub lies : LiesIn front mem

-- and no other records in memory of that size do
abbrev pub OnlyLayout : Meaning → List Record → Type 0
OnlyLayout m mem = (other : List Record) → length other ≡ length mem → LaidOut m other → other ≡ mem

abbrev pub HoldsOnly : Meaning → List Record → Type 0
HoldsOnly m mem = LaidOut m mem × OnlyLayout m mem

-- How a store's records lie, what they mean, and what memory holds that is lent to a store of records.
use Rattle.std.specs.Prelude.{◌≡◌, ℕ, Bool, true, if◌then◌else◌, ◌&&◌, ◌||◌, List, [], ◌∷◌, length, take, Some, None, Option, ◌==◌, nat_le, nat_lt}
use Rattle.std.specs.List.{AllByRecursion, list_all}
use Rattle.snapshot.specs.Limits.{key_count, is_key}
use Rattle.store.specs.Meaning.{Meaning}
use Rattle.records.specs.Records.{first_records, of_key}
use Rattle.records.specs.declared.record.Record.{Record}

-- the most versions of one key
abbrev pub record_depth : ℕ
record_depth = 16

-- The order of records.

-- by timestamp, then key
abbrev pub is_before : Record → Record → Bool
is_before r q = nat_lt r.timestamp q.timestamp || (r.timestamp == q.timestamp && nat_lt r.key q.key)

abbrev pub in_order : List Record → Bool
in_order [] = true
in_order (r ∷ rs) = list_all (is_before r) rs && in_order rs

-- of a key that there is, and not later than last
abbrev pub sound_record : ℕ → Record → Bool
sound_record last r = is_key r.key && nat_le r.timestamp last

-- What a store of records means.

-- how many records there is room for: all of fit memory, and none in other memory
abbrev pub room_for : Bool → ℕ → ℕ
room_for fit size = if fit then size else 0

-- the records that it shows: those that it lists, or over unfit memory those of a new store
abbrev pub shown : Bool → List Record → List Record
shown fit rs = if fit then rs else first_records key_count

-- as many as the memory has places for; 64 over unfit memory, so that no commit fits
abbrev pub capacity_for : Bool → ℕ → ℕ
capacity_for fit size = if fit then size else key_count

abbrev pub records_meaning : Bool → ℕ → List Record → ℕ → Meaning
records_meaning fit size rs last =
    record { last = last; capacity = capacity_for fit size; kept = λ k. of_key k (shown fit rs) }

-- of a memory that is fit or not, and has these records at its places, of which the first n are kept
abbrev pub memory_meaning : {M : Type 0} → (M → Bool) → (M → List Record) → M → ℕ → ℕ → Meaning
memory_meaning fit records m n last = records_meaning (fit m) (length (records m)) (take n (records m)) last

-- what holds of every store of records: those that it shows are sound and in order
abbrev pub are_sound : Bool → List Record → ℕ → Bool
are_sound fit rs last = list_all (sound_record last) (shown fit rs) && in_order (shown fit rs)

-- What lent memory holds.

-- the versions that a store keeps, by timestamp, then key
pub record ListsVersions (m : Meaning) (rs : List Record) : Type 0 where
  pub ordered : in_order rs ≡ true
  pub in_range : AllByRecursion (λ r. is_key r.key ≡ true) rs
  pub versions : (k : ℕ) → of_key k rs ≡ m.kept k

-- which memory was lent: the loan's name, how many records it has places for, and what it held, if it is unfit and so left alone
pub record Loan (H : Type 0) : Type 0 where
  pub name : ℕ
  pub size : ℕ
  pub left_alone : Option H

abbrev pub loan_of : {M H : Type 0} → (M → ℕ) → (M → List Record) → (M → Bool) → (M → H) → M → Loan H
loan_of name records fit held m =
    record { name = name m; size = length (records m); left_alone = if fit m then None else Some (held m) }

-- fit memory holds a list of the versions that are kept, and there is only one such list; unfit memory holds what it held.
-- `lies` says that such records, and nothing else, lie in it
abbrev pub HoldsFor : {H : Type 0} → (List Record → H → Type 0) → Meaning → H → Option H → Type 0
HoldsFor lies m h None =
    (front : List Record) × ListsVersions m front × ((other : List Record) → ListsVersions m other → other ≡ front) × lies front h
HoldsFor lies m h (Some before) = h ≡ before

abbrev pub HoldsVersions : {H : Type 0} → (List Record → H → Type 0) → Loan H → Meaning → H → Type 0
HoldsVersions lies l m h = HoldsFor lies m h l.left_alone

-- A number for each key, as a function that is 0 where there is no such key.
use Rattle.std.specs.Prelude.{ℕ, zero, suc, ◌+◌, ◌-◌, if◌then◌else◌, ◌&&◌, ◌==◌, slice_index}
use Rattle.snapshot.specs.Limits.{key_count, is_key}
use Rattle.records.specs.declared.per_key.PerKey.{PerKey}

abbrev pub number_for : PerKey → ℕ → ℕ
number_for p k = if is_key k then slice_index p.numbers k else 0

-- the numbers of a function at each key
abbrev pub per_key : (ℕ → ℕ) → ℕ → ℕ
per_key f k = if is_key k then f k else 0

-- the same numbers, but for one key
abbrev pub with : (ℕ → ℕ) → ℕ → ℕ → ℕ → ℕ
with f key n k = if k == key && is_key key then n else f k

-- one less for one key, if it has any
abbrev pub one_less : (ℕ → ℕ) → ℕ → ℕ → ℕ
one_less f key k = if k == key then f k - 1 else f k

-- the numbers of the keys below n together
unfoldable pub total_below : ℕ → (ℕ → ℕ) → ℕ
total_below zero f = 0
total_below (suc n) f = total_below n f + f n

-- those of all keys
abbrev pub total_of : (ℕ → ℕ) → ℕ
total_of f = total_below key_count f

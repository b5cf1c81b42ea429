-- How many versions a list of records has of each key, and how many of them go for a commit.
use Rattle.std.specs.Prelude.{◌≡◌, ℕ, ◌-◌, List, length, Some, None, Option}
use Rattle.records.specs.PerKeys.{number_for, per_key}
use Rattle.records.specs.Records.{of_key}
use Rattle.records.specs.declared.per_key.PerKey.{PerKey}
use Rattle.records.specs.declared.record.Record.{Record}

-- the numbers of versions of each key
abbrev pub CountsOf : PerKey → List Record → Type 0
CountsOf p rs = (k : ℕ) → number_for p k ≡ per_key (λ j. length (of_key j rs)) k

-- of a key's n versions, how many have to go so that with one more there are no more than the depth; none if it gets no more
abbrev pub excess_for : ℕ → Option ℕ → ℕ → ℕ
excess_for depth None n = 0
excess_for depth (Some x) n = n - (depth - 1)

-- The keys so far have less.
use Rattle.std.proofs.Common.{◌≡◌, ℕ, ◌-◌, if◌then◌else◌, nat_lt}
use Rattle.records.specs.PerKeys.{number_for}
use Rattle.records.proofs.per_key.PerKey.subtract.Given as goal

abbrev pub invariant-loop-key : goal.invariant-loop-key
invariant-loop-key l =
    (k : ℕ) → number_for l.self k ≡ (if nat_lt k l.key then number_for l.initial.self k - number_for l.other k else number_for l.initial.self k)

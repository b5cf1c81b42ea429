-- The numbers are those of the writes so far.
use Rattle.std.proofs.Common.{◌≡◌, ℕ, take}
use Rattle.records.specs.PerKeys.{number_for}
use Rattle.record_store.proofs.Excesses.{dropped}
use Rattle.record_store.proofs.dropping.excess_versions.Given as goal

abbrev pub invariant-loop-write : goal.invariant-loop-write
invariant-loop-write l = (k : ℕ) → number_for l.excess k ≡ dropped l.depth (take l.write-index l.writes) l.counts k

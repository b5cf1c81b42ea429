-- What a commit and a prune leave of records, drawn from the versions of each key.
use Rattle.std.proofs.Common.{ℕ, List, ◌++◌, map, length, Option}
use Rattle.snapshot.specs.declared.account.Write.{Write}
use Rattle.store.specs.Meaning.{outdated, written_to}
use Rattle.store.specs.declared.version.Version.{Version}
use Rattle.records.specs.Counts.{excess_for}
use Rattle.records.specs.PerKeys.{per_key}
use Rattle.records.specs.Records.{drop_firsts, of_key, written}
use Rattle.records.specs.declared.record.Record.{Record}

-- how many of a key's versions have to go so that with one more there are no more than the depth; none if it gets no more
abbrev pub excess : ℕ → Option ℕ → List Version → ℕ
excess depth o vs = excess_for depth o (length vs)

-- the list after a commit of these writes: the written keys drop what is too much, and each write adds a record
abbrev pub after_writes : ℕ → ℕ → List Write → List Record → List Record
after_writes depth t ws rs =
    drop_firsts (per_key (λ k. excess depth (written_to k ws) (of_key k rs))) rs ++ map (written t) ws

-- the list after a prune at this horizon: each key drops what is outdated
abbrev pub without_outdated : ℕ → List Record → List Record
without_outdated h rs = drop_firsts (per_key (λ k. outdated h (of_key k rs))) rs

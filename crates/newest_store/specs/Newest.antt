-- What the store of the newest versions means, and the version that a key has after a commit.
use Rattle.std.specs.Prelude.{ℕ, if◌then◌else◌, List, [], ◌∷◌, Some, None, Option, slice_index_or}
use Rattle.snapshot.specs.Limits.{key_count, is_key}
use Rattle.store.specs.Meaning.{Meaning, version_of}
use Rattle.store.specs.declared.version.Version.{Version}
use Rattle.newest_store.specs.declared.newest.Newest.{Newest}

-- the version in a key's place
abbrev pub version_at : ℕ → List Version → Version
version_at k vs = slice_index_or vs k (version_of 0 0)

-- its last timestamp, room for one version of each key, and of each key the version in its place
abbrev pub newest_meaning : Newest → Meaning
newest_meaning s =
    record {
      last = s.last;
      capacity = key_count;
      kept = λ k. if is_key k then version_at k s.versions ∷ [] else [];
    }

-- the version of a key after a commit at t that wrote this to it, or nothing
abbrev pub version_with : ℕ → Option ℕ → Version → Version
version_with t None v = v
version_with t (Some x) v = version_of t x

-- What a chain's readings are made of, which keys it has read, and what is noted of that.
use Rattle.std.specs.Prelude.{◌≡◌, ℕ, ◌<◌, Bool, true, false, ◌||◌, List, [], ◌∷◌, ◌==◌, slice_index_or}
use Rattle.snapshot.specs.Limits.{key_count}
use Rattle.engine_model.specs.declared.records.LegReading.{LegReading}
use Rattle.engine_parts.specs.Lists.{elements_of}
use Rattle.engine_parts.specs.declared.list.BoundedList.{BoundedList}

-- the fields of a chain's readings: the list of them, and the keys that are noted
pub record ReadingsFields : Type 0 where
  pub list : BoundedList LegReading 32
  pub read : List Bool

-- a chain's readings in order
abbrev pub readings_of : ReadingsFields → List LegReading
readings_of r = elements_of r.list

-- is one of the readings of this key?
abbrev pub reads_key : ℕ → List LegReading → Bool
reads_key k [] = false
reads_key k (r ∷ rs) = r.made.key == k || reads_key k rs

-- a key of which there is a reading is noted in the list
abbrev pub KnowsKeys : List Bool → List LegReading → Type 0
KnowsKeys noted rs = (k : ℕ) → k < key_count → reads_key k rs ≡ true → slice_index_or noted k false ≡ true

-- What a list of bounded length holds, and what stands in an array, as the model tells it.
use Rattle.std.specs.Prelude.{ℕ, List, map, take, slice_index_or}
use Rattle.engine_parts.specs.declared.list.BoundedList.{BoundedList}

-- the entries, from the first to the last
abbrev pub elements_of : {T : Type 0} {N : ℕ} → BoundedList T N → List T
elements_of l = take l.len l.items

-- what f makes of the item at a place, and past the end d
abbrev pub item_at : {X Y : Type 0} → (X → Y) → Y → List X → ℕ → Y
item_at f d xs i = slice_index_or (map f xs) i d

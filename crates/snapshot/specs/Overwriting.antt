-- A list of a caller's, of which a call fills the start.
use Rattle.std.specs.Prelude.{List, ◌++◌, length, drop}

-- a list whose first elements are replaced by these
abbrev pub overwritten : {X : Type 0} → List X → List X → List X
overwritten new old = new ++ drop (length new) old

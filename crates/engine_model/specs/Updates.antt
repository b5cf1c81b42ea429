-- A function from numbers with another value at one place.
use Rattle.std.specs.Prelude.{ℕ, if◌then◌else◌, ◌==◌}

abbrev pub with_at : {X : Type 0} → ℕ → X → (ℕ → X) → ℕ → X
with_at i x f j = if j == i then x else f j

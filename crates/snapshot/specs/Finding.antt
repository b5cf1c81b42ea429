-- The first element of a list that passes a test.
use Rattle.std.specs.Prelude.{◌≡◌, ℕ, suc, ◌<◌, Bool, true, false, if◌then◌else◌, List, [], ◌∷◌, length, Some, None, Option, MatchOption, slice_index_or}
use Rattle.std.specs.Option.{option_map}

-- the place of the first element that passes
abbrev pub first_with : {X : Type 0} → (X → Bool) → List X → Option ℕ
first_with test [] = None
first_with test (x ∷ xs) = if test x then Some 0 else option_map suc (first_with test xs)

-- none passes below n
abbrev pub NonePassesBelow : {X : Type 0} → (X → Bool) → List X → ℕ → Type 0
NonePassesBelow {X} test xs n = (k : ℕ) (d : X) → k < n → test (slice_index_or xs k d) ≡ false

-- the answer is a place whose element passes and before which none does, or there is no such place
abbrev pub FirstMeans : {X : Type 0} → (X → Bool) → List X → Option ℕ → Type 0
FirstMeans {X} test xs r =
    MatchOption r (NonePassesBelow test xs (length xs))
    (λ i. (i < length xs) × ((d : X) → test (slice_index_or xs i d) ≡ true) × NonePassesBelow test xs i)

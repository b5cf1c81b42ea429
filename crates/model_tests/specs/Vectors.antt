-- The traces that the model is held to.
use Rattle.std.specs.Prelude.{List, [], ◌∷◌}
use Rattle.std.specs.List.{AllByRecursion}
use Rattle.model_tests.specs.Answered.{Vector, Matches}
use Rattle.model_tests.specs.Vectors.AtLimits.{thirty_two_readings, eight_keys, last_timestamp, more_than_the_depth, sixty_four_notices, ninth_entry}
use Rattle.model_tests.specs.Vectors.Mixed1.{mixed_01, mixed_02, mixed_03, mixed_04, mixed_05}
use Rattle.model_tests.specs.Vectors.Mixed2.{mixed_06, mixed_07, mixed_08, mixed_09, mixed_10}
use Rattle.model_tests.specs.Vectors.Mixed3.{mixed_11, mixed_12, mixed_13, mixed_14}
pub mod AtLimits
pub mod Mixed1
pub mod Mixed2
pub mod Mixed3

abbrev pub vectors : List Vector
vectors =
    thirty_two_readings
    ∷ eight_keys
    ∷ last_timestamp
    ∷ more_than_the_depth
    ∷ sixty_four_notices
    ∷ ninth_entry
    ∷ mixed_01
    ∷ mixed_02
    ∷ mixed_03
    ∷ mixed_04
    ∷ mixed_05
    ∷ mixed_06
    ∷ mixed_07
    ∷ mixed_08
    ∷ mixed_09
    ∷ mixed_10
    ∷ mixed_11
    ∷ mixed_12
    ∷ mixed_13
    ∷ mixed_14
    ∷ []

-- the model agrees on each
abbrev pub AllMatch : Type 0
AllMatch = AllByRecursion Matches vectors

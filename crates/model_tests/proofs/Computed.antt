-- Each trace is computed in a lemma of its own.
use Rattle.std.proofs.Common.{refl}
use Rattle.store.specs.Meaning.{versions_below}
use Rattle.engine_model.specs.Steps.{check, with_chain, with_open, with_open_leg, if_free, with_result, or_else}
use Rattle.model_tests.specs.Answered.{Matches}
use Rattle.model_tests.specs.Vectors.{AllMatch}
use Rattle.model_tests.specs.Vectors.AtLimits.{thirty_two_readings, eight_keys, last_timestamp, more_than_the_depth, sixty_four_notices, ninth_entry}
use Rattle.model_tests.specs.Vectors.Mixed1.{mixed_01, mixed_02, mixed_03, mixed_04, mixed_05}
use Rattle.model_tests.specs.Vectors.Mixed2.{mixed_06, mixed_07, mixed_08, mixed_09, mixed_10}
use Rattle.model_tests.specs.Vectors.Mixed3.{mixed_11, mixed_12, mixed_13, mixed_14}

agrees_thirty_two_readings : Matches thirty_two_readings
unfolding check with_chain with_open with_open_leg if_free with_result or_else versions_below
agrees_thirty_two_readings = refl

agrees_eight_keys : Matches eight_keys
unfolding check with_chain with_open with_open_leg if_free with_result or_else versions_below
agrees_eight_keys = refl

agrees_last_timestamp : Matches last_timestamp
unfolding check with_chain with_open with_open_leg if_free with_result or_else versions_below
agrees_last_timestamp = refl

agrees_more_than_the_depth : Matches more_than_the_depth
unfolding check with_chain with_open with_open_leg if_free with_result or_else versions_below
agrees_more_than_the_depth = refl

agrees_sixty_four_notices : Matches sixty_four_notices
unfolding check with_chain with_open with_open_leg if_free with_result or_else versions_below
agrees_sixty_four_notices = refl

agrees_ninth_entry : Matches ninth_entry
unfolding check with_chain with_open with_open_leg if_free with_result or_else versions_below
agrees_ninth_entry = refl

agrees_mixed_01 : Matches mixed_01
unfolding check with_chain with_open with_open_leg if_free with_result or_else versions_below
agrees_mixed_01 = refl

agrees_mixed_02 : Matches mixed_02
unfolding check with_chain with_open with_open_leg if_free with_result or_else versions_below
agrees_mixed_02 = refl

agrees_mixed_03 : Matches mixed_03
unfolding check with_chain with_open with_open_leg if_free with_result or_else versions_below
agrees_mixed_03 = refl

agrees_mixed_04 : Matches mixed_04
unfolding check with_chain with_open with_open_leg if_free with_result or_else versions_below
agrees_mixed_04 = refl

agrees_mixed_05 : Matches mixed_05
unfolding check with_chain with_open with_open_leg if_free with_result or_else versions_below
agrees_mixed_05 = refl

agrees_mixed_06 : Matches mixed_06
unfolding check with_chain with_open with_open_leg if_free with_result or_else versions_below
agrees_mixed_06 = refl

agrees_mixed_07 : Matches mixed_07
unfolding check with_chain with_open with_open_leg if_free with_result or_else versions_below
agrees_mixed_07 = refl

agrees_mixed_08 : Matches mixed_08
unfolding check with_chain with_open with_open_leg if_free with_result or_else versions_below
agrees_mixed_08 = refl

agrees_mixed_09 : Matches mixed_09
unfolding check with_chain with_open with_open_leg if_free with_result or_else versions_below
agrees_mixed_09 = refl

agrees_mixed_10 : Matches mixed_10
unfolding check with_chain with_open with_open_leg if_free with_result or_else versions_below
agrees_mixed_10 = refl

agrees_mixed_11 : Matches mixed_11
unfolding check with_chain with_open with_open_leg if_free with_result or_else versions_below
agrees_mixed_11 = refl

agrees_mixed_12 : Matches mixed_12
unfolding check with_chain with_open with_open_leg if_free with_result or_else versions_below
agrees_mixed_12 = refl

agrees_mixed_13 : Matches mixed_13
unfolding check with_chain with_open with_open_leg if_free with_result or_else versions_below
agrees_mixed_13 = refl

agrees_mixed_14 : Matches mixed_14
unfolding check with_chain with_open with_open_leg if_free with_result or_else versions_below
agrees_mixed_14 = refl

pub all_agree : AllMatch
all_agree =
    (agrees_thirty_two_readings, (agrees_eight_keys, (agrees_last_timestamp, (agrees_more_than_the_depth, (agrees_sixty_four_notices, (agrees_ninth_entry, (agrees_mixed_01, (agrees_mixed_02, (agrees_mixed_03, (agrees_mixed_04, (agrees_mixed_05, (agrees_mixed_06, (agrees_mixed_07, (agrees_mixed_08, (agrees_mixed_09, (agrees_mixed_10, (agrees_mixed_11, (agrees_mixed_12, (agrees_mixed_13, (agrees_mixed_14, tt))))))))))))))))))))

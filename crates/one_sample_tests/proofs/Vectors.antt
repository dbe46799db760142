-- Worked rows of the definition, by computation.
use Rattle.std.specs.Prelude.{◌≡◌, pos, ◌-ℤ◌, List, ℤ, [], ◌∷◌}
use Rattle.std.proofs.Common.{refl}
use Rattle.weights.specs.Conditional.{numerator, observed_statistic, total}
use Rattle.weights.specs.declared.tails.Tail.TheVariants.{Less, Greater, Two}
use Rattle.midranks.specs.Midranks.{doubled_midrank, number_below, number_equal}
use Rattle.midranks.specs.Ties.{tie_groups}
use Rattle.scores.specs.RawScores.{decimals, is_whole, raw_score}
use Rattle.one_sample_tests.specs.declared.kinds.SignKind.TheVariants.{SignedRank, Sign, RawSigned}
use Rattle.one_sample_tests.specs.SignedSamples.{SignedSample, discordant, one_sample_test, sample_of, used_scores}

-- the differences 1, 2, 3 and 0, in units of 1
abbrev rising : SignedSample
rising = sample_of SignedRank (pos 1 ∷ pos 2 ∷ pos 3 ∷ pos 0 ∷ [])

rising_statistic : observed_statistic (one_sample_test rising) ≡ pos 12
unfolding doubled_midrank number_below number_equal
rising_statistic = refl

rising_bound : (one_sample_test rising).bound ≡ 24
unfolding doubled_midrank number_below number_equal
rising_bound = refl

rising_total : total (one_sample_test rising) ≡ 8
rising_total = refl

rising_greater : numerator (one_sample_test rising) Greater ≡ 1
unfolding doubled_midrank number_below number_equal
rising_greater = refl

rising_two : numerator (one_sample_test rising) Two ≡ 2
unfolding doubled_midrank number_below number_equal
rising_two = refl

-- the differences 1, 2, 0 and -1, in units of 1: two of three share their size
abbrev mixed : List ℤ
mixed = pos 1000000000000000000 ∷ pos 2000000000000000000 ∷ pos 0 ∷ (pos 0 -ℤ pos 1000000000000000000) ∷ []

raw_statistic : observed_statistic (one_sample_test (sample_of RawSigned mixed)) ≡ pos 3
unfolding decimals is_whole raw_score
raw_statistic = refl

raw_scale : (one_sample_test (sample_of RawSigned mixed)).scale ≡ 1
unfolding decimals is_whole
raw_scale = refl

raw_less : numerator (one_sample_test (sample_of RawSigned mixed)) Less ≡ 7
unfolding decimals is_whole raw_score
raw_less = refl

raw_greater : numerator (one_sample_test (sample_of RawSigned mixed)) Greater ≡ 3
unfolding decimals is_whole raw_score
raw_greater = refl

raw_two : numerator (one_sample_test (sample_of RawSigned mixed)) Two ≡ 6
unfolding decimals is_whole raw_score
raw_two = refl

sign_greater : numerator (one_sample_test (sample_of Sign mixed)) Greater ≡ 4
sign_greater = refl

sign_two : numerator (one_sample_test (sample_of Sign mixed)) Two ≡ 8
sign_two = refl

-- the groups of the network: two subjects with the score 3, and one with the score 6
mixed_groups : tie_groups (used_scores (sample_of SignedRank mixed)) ≡ record { value = pos 3; count = 2 } ∷ record { value = pos 6; count = 1 } ∷ []
unfolding tie_groups doubled_midrank number_below number_equal
mixed_groups = refl

-- the table with the rows 10 5 and 1 8
abbrev matched : SignedSample
matched = discordant (record { rows = 2; columns = 2; cells = 10 ∷ 5 ∷ 1 ∷ 8 ∷ [] })

matched_statistic : observed_statistic (one_sample_test matched) ≡ pos 5
matched_statistic = refl

matched_total : total (one_sample_test matched) ≡ 64
matched_total = refl

matched_less : numerator (one_sample_test matched) Less ≡ 63
matched_less = refl

matched_greater : numerator (one_sample_test matched) Greater ≡ 7
matched_greater = refl

matched_two : numerator (one_sample_test matched) Two ≡ 14
matched_two = refl

-- Worked rows of the definition, by computation.
use Rattle.std.specs.Prelude.{◌≡◌, pos, negsuc, [], ◌∷◌}
use Rattle.std.proofs.Common.{refl}
use Rattle.weights.specs.Conditional.{numerator, observed_statistic, total}
use Rattle.weights.specs.declared.tails.Tail.TheVariants.{Less, Greater, Two}
use Rattle.midranks.specs.Ties.{tie_groups}
use Rattle.sample_reader.specs.Twins.{TwinData}
use Rattle.sample_reader.specs.PooledSample.{paired_subjects}
use Rattle.kendall_test.specs.CountCodes.{code}
use Rattle.kendall_test.specs.Kendall.{kendall_test, places_of}
use Rattle.kendall_test.specs.TransposedKendall.{transposed_twins}

-- three subjects, of whom the first two stand in the other order
abbrev three : TwinData
three = record { first = pos 1 ∷ pos 2 ∷ pos 3 ∷ []; second = pos 2 ∷ pos 1 ∷ pos 3 ∷ [] }

three_sum : observed_statistic (kendall_test three) ≡ pos 1
unfolding tie_groups paired_subjects
three_sum = refl

three_total : total (kendall_test three) ≡ 6
unfolding tie_groups
three_total = refl

three_less : numerator (kendall_test three) Less ≡ 5
unfolding tie_groups paired_subjects
three_less = refl

three_greater : numerator (kendall_test three) Greater ≡ 3
unfolding tie_groups paired_subjects
three_greater = refl

three_two : numerator (kendall_test three) Two ≡ 6
unfolding tie_groups paired_subjects
three_two = refl

-- two of three second values are equal
abbrev tied : TwinData
tied = record { first = pos 1 ∷ pos 2 ∷ pos 3 ∷ []; second = pos 1 ∷ pos 1 ∷ pos 2 ∷ [] }

tied_sum : observed_statistic (kendall_test tied) ≡ pos 2
unfolding tie_groups paired_subjects
tied_sum = refl

tied_two : numerator (kendall_test tied) Two ≡ 2
unfolding tie_groups paired_subjects
tied_two = refl

-- the same with the two values of each subject in each other's place: as many again of twice as many
tied_transposed_sum : observed_statistic (kendall_test (transposed_twins tied)) ≡ pos 2
unfolding tie_groups paired_subjects
tied_transposed_sum = refl

tied_transposed_total : total (kendall_test (transposed_twins tied)) ≡ 6
unfolding tie_groups
tied_transposed_total = refl

tied_transposed_two : numerator (kendall_test (transposed_twins tied)) Two ≡ 4
unfolding tie_groups paired_subjects
tied_transposed_two = refl

-- ties in both columns, and subjects whose first values do not ascend
abbrev both : TwinData
both = record { first = pos 3 ∷ pos 1 ∷ pos 3 ∷ pos 2 ∷ []; second = pos 1 ∷ pos 7 ∷ pos 7 ∷ negsuc 0 ∷ [] }

both_sum : observed_statistic (kendall_test both) ≡ pos 0
unfolding tie_groups paired_subjects
both_sum = refl

places : places_of (pos 7 ∷ pos 5 ∷ pos 7 ∷ pos 9 ∷ []) ≡ 1 ∷ 0 ∷ 1 ∷ 2 ∷ []
unfolding tie_groups
places = refl

-- seven units in counts of 2, 3, 0, 1 and 1: a count ends at the places 2, 5, 6 and 7, of which the
-- last is not kept
code-is : code (2 ∷ 3 ∷ 0 ∷ 1 ∷ 1 ∷ []) ≡ 50
code-is = refl

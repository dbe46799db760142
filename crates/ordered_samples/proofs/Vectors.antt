-- Worked rows of the definition, by computation.
use Rattle.std.specs.Prelude.{◌≡◌, pos, [], ◌∷◌, codes}
use Rattle.std.proofs.Common.{refl}
use Rattle.weights.specs.Conditional.{numerator, observed_statistic, total}
use Rattle.weights.specs.declared.tails.Tail.TheVariants.{Less, Greater, Two}
use Rattle.sample_reader.specs.PooledSample.{paired_subjects}
use Rattle.ordered_samples.specs.Umbrella.{PeakedGroups, umbrella_test, used_pairs}

-- of three groups that rise to the second, it is above both others
used_by_peak : used_pairs 2 3 ≡ record { lesser = 0; greater = 1 } ∷ record { lesser = 2; greater = 1 } ∷ []
used_by_peak = refl

used_by_rise : used_pairs 3 3 ≡ record { lesser = 0; greater = 1 } ∷ record { lesser = 0; greater = 2 } ∷ record { lesser = 1; greater = 2 } ∷ []
used_by_rise = refl

-- a rises to the peak b, and c is below it
single : PeakedGroups
single = record {
  peak = 2;
  groups = record {
    labels = codes "a" ∷ codes "b" ∷ codes "c" ∷ [];
    members = 0 ∷ 1 ∷ 2 ∷ [];
    values = pos 1 ∷ pos 3 ∷ pos 2 ∷ [];
  };
}

single_statistic : observed_statistic (umbrella_test single) ≡ pos 4
unfolding paired_subjects single
single_statistic = refl

single_total : total (umbrella_test single) ≡ 6
unfolding single
single_total = refl

single_less : numerator (umbrella_test single) Less ≡ 6
unfolding paired_subjects single
single_less = refl

single_greater : numerator (umbrella_test single) Greater ≡ 2
unfolding paired_subjects single
single_greater = refl

single_two : numerator (umbrella_test single) Two ≡ 4
unfolding paired_subjects single
single_two = refl

-- two groups with a tie across them: 1 2 in the first, 2 3 in the second
tied : PeakedGroups
tied = record {
  peak = 2;
  groups = record {
    labels = codes "a" ∷ codes "b" ∷ [];
    members = 0 ∷ 1 ∷ 0 ∷ 1 ∷ [];
    values = pos 1 ∷ pos 2 ∷ pos 2 ∷ pos 3 ∷ [];
  };
}

tied_statistic : observed_statistic (umbrella_test tied) ≡ pos 7
unfolding paired_subjects tied
tied_statistic = refl

tied_greater : numerator (umbrella_test tied) Greater ≡ 2
unfolding paired_subjects tied
tied_greater = refl

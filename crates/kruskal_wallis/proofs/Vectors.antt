-- Worked rows of the definition, by computation.
use Rattle.std.specs.Prelude.{◌≡◌, pos, [], ◌∷◌, codes}
use Rattle.std.proofs.Common.{refl}
use Rattle.weights.specs.Conditional.{numerator, observed_statistic, total}
use Rattle.weights.specs.declared.tails.Tail.TheVariants.{Greater}
use Rattle.weights.specs.Numbers.{lcm}
use Rattle.midranks.specs.Midranks.{doubled_midrank, number_below, number_equal}
use Rattle.scores.specs.PlaceScores.{common_multiple}
use Rattle.scores.specs.declared.kinds.ScoreKind.TheVariants.{Wilcoxon}
use Rattle.sample_reader.specs.PooledSample.{paired_subjects}
use Rattle.completion_bounds.specs.Boxes.{factored_squares}
use Rattle.networks.specs.PartialSums.{plus}
use Rattle.kruskal_wallis.specs.CentredSums.{from_middle, middle_squares}
use Rattle.kruskal_wallis.specs.KruskalWallis.{ScoredGroups, kruskal_wallis_test}

-- 1 and 2 against 3 and 4 by doubled midranks, and a single 5 against 5 and 7
apart : ScoredGroups
apart = record {
  kind = Wilcoxon;
  groups = record {
    labels = codes "a" ∷ codes "b" ∷ [];
    members = 0 ∷ 0 ∷ 1 ∷ 1 ∷ [];
    values = pos 1 ∷ pos 2 ∷ pos 3 ∷ pos 4 ∷ [];
  };
}

apart_statistic : observed_statistic (kruskal_wallis_test apart) ≡ pos 232
unfolding paired_subjects number_below number_equal doubled_midrank common_multiple lcm apart
apart_statistic = refl

apart_scale : (kruskal_wallis_test apart).scale ≡ 8
unfolding paired_subjects common_multiple lcm apart
apart_scale = refl

apart_total : total (kruskal_wallis_test apart) ≡ 6
unfolding paired_subjects apart
apart_total = refl

apart_greater : numerator (kruskal_wallis_test apart) Greater ≡ 2
unfolding paired_subjects number_below number_equal doubled_midrank common_multiple lcm apart
apart_greater = refl

beside : ScoredGroups
beside = record {
  kind = Wilcoxon;
  groups = record {
    labels = codes "a" ∷ codes "b" ∷ [];
    members = 0 ∷ 1 ∷ 1 ∷ [];
    values = pos 5 ∷ pos 5 ∷ pos 7 ∷ [];
  };
}

-- doubled midranks 3, 3 and 6, sizes 1 and 2: 2 * 9 + 81
beside_statistic : observed_statistic (kruskal_wallis_test beside) ≡ pos 99
unfolding paired_subjects number_below number_equal doubled_midrank common_multiple lcm beside
beside_statistic = refl

beside_greater : numerator (kruskal_wallis_test beside) Greater ≡ 3
unfolding paired_subjects number_below number_equal doubled_midrank common_multiple lcm beside
beside_greater = refl

-- seen from the middle score 4, the sums 3 and 9 are -1 and 1: 2 * 1 + 1, and all labellings have 96 more
beside_middle : middle_squares 2 4 12 3 ≡ 96
beside_middle = refl

beside_seen : factored_squares (plus (pos 3 ∷ pos 9 ∷ []) (from_middle 4 (1 ∷ 2 ∷ []))) (2 ∷ 1 ∷ []) ≡ 3
beside_seen = refl

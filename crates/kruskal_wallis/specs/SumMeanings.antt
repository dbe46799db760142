-- What the two measures of the groups' sums measure.
use Rattle.std.specs.Prelude.{◌≡◌}
use Rattle.label_network.specs.Meanings.{Meaning}
use Rattle.sample_reader.specs.Groups.{group_sizes}
use Rattle.pooled_columns.specs.PooledColumns.{column_scores, pooled_values}
use Rattle.kruskal_wallis.specs.CentredSums.{centred_meaning}
use Rattle.kruskal_wallis.specs.KruskalWallis.{ScoredGroups, kruskal_wallis_test, size_factors}
use Rattle.kruskal_wallis.specs.RankSums.{squares_meaning, unpacked_meaning}
use Rattle.kruskal_wallis.specs.declared.centred_sums.CentredSums.{CentredSums}
use Rattle.kruskal_wallis.specs.declared.rank_sums.RankSums.{RankSums}

-- the sums as they are
abbrev pub sums_meaning : RankSums → Meaning
sums_meaning m =
    squares_meaning m.factors.items m.bound m.later.scores.items m.later.columns.items
    m.rows.items m.judge

-- and seen from their middle
abbrev pub seen_meaning : CentredSums → Meaning
seen_meaning m =
    centred_meaning m.sums.factors.items m.sums.bound m.base m.middle
    m.sums.later.scores.items m.sums.later.columns.items m.sums.rows.items m.sums.judge

-- the sums of these groups
pub record AreSums (samples : ScoredGroups) (m : RankSums) : Type 0 where
  pub meaning : sums_meaning m ≡ unpacked_meaning samples
  pub bound : m.bound ≡ (kruskal_wallis_test samples).bound
  pub factors : m.factors.items ≡ size_factors (group_sizes samples.groups)
  pub scores : m.later.scores.items
      ≡ column_scores samples.kind (pooled_values samples.groups)

-- The network of a test of two samples: a stage is a distinct value, ascending, with the subjects
-- that have it, and its choice says how many of them are of each sample.
use Rattle.std.specs.Prelude.{ℤ, pos, List, [], ◌∷◌}
use Rattle.weights.specs.declared.tails.Tail.{Tail}
use Rattle.sample_reader.specs.Groups.{group_sizes}
use Rattle.networks.specs.Judged.{judge_of}
use Rattle.networks.specs.Network.{Network}
use Rattle.label_network.specs.LabelNetwork.{label_network}
use Rattle.label_network.specs.Linear.{linear_meaning}
use Rattle.label_network.specs.Meanings.{Meaning}
use Rattle.labelled.specs.declared.linear.ScoredLabels.{ScoredLabels}
use Rattle.pooled_columns.specs.PooledColumns.{column_scores, column_sizes, pooled_values}
use Rattle.pooled_columns.specs.ScoredGroups.{scored_groups}
use Rattle.two_sample_tests.specs.TwoSamples.{TwoSamples, two_sample_test}

-- a subject of the second sample counts once, and one of the first not at all
abbrev pub row_scores : List ℤ
row_scores = pos 0 ∷ pos 1 ∷ []

-- the samples as labels and subjects with scores
abbrev pub scored_samples : TwoSamples → ScoredLabels
scored_samples samples = scored_groups samples.kind row_scores samples.groups

abbrev pub two_sample_meaning : TwoSamples → Meaning
two_sample_meaning samples =
    let values = pooled_values samples.groups in
    linear_meaning row_scores (group_sizes samples.groups)
    (column_scores samples.kind values) (column_sizes values) (judge_of (two_sample_test samples))

-- one network for all tails
abbrev pub two_sample_network : TwoSamples → Tail → Network
two_sample_network samples tail = label_network (two_sample_meaning samples)

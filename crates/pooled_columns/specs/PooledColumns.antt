-- The columns of a pooled sample: its distinct values, ascending. Subjects of one column are tied.
use Rattle.std.specs.Prelude.{ℕ, ℤ, List, map}
use Rattle.midranks.specs.Ties.{tie_groups}
use Rattle.scores.specs.Scores.{score_of}
use Rattle.scores.specs.declared.kinds.ScoreKind.{ScoreKind}
use Rattle.sample_reader.specs.Groups.{GroupData}
use Rattle.sample_reader.specs.PooledSample.{pooled, values_of}

-- the values of the pooled sample, ascending
abbrev pub pooled_values : GroupData → List ℤ
pooled_values groups = values_of (pooled groups)

-- how many of the values are each distinct one, and the score that these have
abbrev pub column_sizes : List ℤ → List ℕ
column_sizes values = map (λ t. t.count) (tie_groups values)

abbrev pub column_scores : ScoreKind → List ℤ → List ℤ
column_scores kind values = map (λ t. score_of kind values t.value) (tie_groups values)

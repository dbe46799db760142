-- Groups by scores of a kind: as labels and subjects with scores.
use Rattle.std.specs.Prelude.{◌≡◌, ℤ, List, Result, Ok, Err}
use Rattle.weights.specs.declared.wide.PrepareFault.{PrepareFault}
use Rattle.scores.specs.Scores.{AreScores, AreTieScores, scale_of, score_list, score_sum}
use Rattle.scores.specs.declared.kinds.ScoreKind.{ScoreKind}
use Rattle.scores.specs.declared.kinds.TieScores.{TieScores}
use Rattle.sample_reader.specs.Groups.{GroupData, group_sizes}
use Rattle.sample_reader.specs.PooledSample.{labels_of, pooled}
use Rattle.labelled.specs.LabelTests.{IsRefusedBy}
use Rattle.labelled.specs.declared.linear.ScoredLabels.{ScoredLabels}
use Rattle.pooled_columns.specs.PooledColumns.{column_scores, column_sizes, pooled_values}
use Rattle.pooled_columns.specs.declared.scored_groups.ScoredSubjects.{ScoredSubjects}

-- the pooled subjects with their scores, in columns of one value, and a score for each group
abbrev pub scored_groups : ScoreKind → List ℤ → GroupData → ScoredLabels
scored_groups kind label_scores groups =
    let values = pooled_values groups in record {
      sizes = group_sizes groups;
      label_scores = label_scores;
      scores = score_list kind values;
      columns = column_sizes values;
      column_scores = column_scores kind values;
      observed = labels_of (pooled groups);
      scale = scale_of kind values;
    }

-- what is made of them
pub record AreScoredSubjects (kind : ScoreKind) (groups : GroupData) (made : ScoredSubjects) :
    Type 0 where
  pub labels : made.labels ≡ labels_of (pooled groups)
  pub scores : AreScores kind (pooled_values groups) made.scored
  pub column_sizes : made.columns.sizes ≡ column_sizes (pooled_values groups)
  pub column_scores : made.columns.scores ≡ column_scores kind (pooled_values groups)

-- the scores of values, or their sum is too wide
abbrev pub IsScoredBy : ScoreKind → List ℤ → Result TieScores PrepareFault → Type 0
IsScoredBy kind values (Ok scored) = AreTieScores kind values scored
IsScoredBy kind values (Err fault) = IsRefusedBy (score_sum kind values) fault

-- the subjects, or the sum of their scores is too wide
abbrev pub AreSubjectsOf :
    ScoreKind → GroupData → Result ScoredSubjects PrepareFault → Type 0
AreSubjectsOf kind groups (Ok made) = AreScoredSubjects kind groups made
AreSubjectsOf kind groups (Err fault) = IsRefusedBy (score_sum kind (pooled_values groups)) fault

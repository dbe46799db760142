-- What is kept of a prepared test of Kendall's K.
use Rattle.std.specs.Prelude.{◌≡◌, ◌≤◌, length}
use Rattle.weights.specs.declared.TheConstants.{MAX}
use Rattle.weights.specs.Labellings.{number_of_labellings}
use Rattle.sample_reader.specs.PooledSample.{values_of}
use Rattle.sample_reader.specs.Twins.{TwinData}
use Rattle.pooled_columns.specs.PooledColumns.{column_sizes}
use Rattle.kendall_test.specs.Kendall.{kendall_subjects}
use Rattle.kendall_test.specs.declared.kendall_made.KendallMade.{KendallMade}

-- what is made of two values of each subject
pub record AreMade (sample : TwinData) (made : KendallMade) : Type 0 where
  pub columns : made.columns ≡ column_sizes (values_of (kendall_subjects sample))
  pub rows : made.rows ≡ column_sizes sample.second
  pub firsts : made.firsts ≡ values_of (kendall_subjects sample)
  pub total : made.total ≡ number_of_labellings (column_sizes sample.second)
  pub long : length sample.second ≡ length sample.first
  pub few : length sample.first ≤ 120
  pub total_fits : number_of_labellings (column_sizes sample.second) ≤ MAX

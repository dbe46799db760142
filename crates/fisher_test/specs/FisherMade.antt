-- What is kept of a table that is prepared for Fisher's test.
use Rattle.std.specs.Prelude.{◌≡◌}
use Rattle.weights.specs.Frames.{IsFrameOf}
use Rattle.table_reader.specs.TableLayout.{TableData}
use Rattle.table_sums.specs.Tables.{is_two_by_two}
use Rattle.table_sums.specs.TableSteps.{AreMargins, IsTable}
use Rattle.fisher_test.specs.FisherExact.{fisher_test}
use Rattle.fisher_test.specs.declared.fisher_table.Weighed.{Weighed}

-- what is made of a table
pub record IsWeighed (table : TableData) (made : Weighed) : Type 0 where
  pub margins : AreMargins table made.margins
  pub two_by_two : made.two_by_two ≡ is_two_by_two table
  pub frame : IsFrameOf (fisher_test table) made.frame
  pub fitting : IsTable table

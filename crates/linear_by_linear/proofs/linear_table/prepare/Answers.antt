use Rattle.std.proofs.Common.{◌∙◌, refl, arith, rules}
use mir.Syntax.{w128}
use Rattle.std.proofs.lemmas.Int.{to_z-of_z}
use Rattle.labelled.proofs.LabelLaws.{label-fits, label-wide}
use Rattle.table_reader.specs.Data.{table_data_of}
use Rattle.table_sums.proofs.MarginSums.{table-few}
use Rattle.linear_by_linear.specs.LinearByLinear.{ScoredTable, linear_says}
use Rattle.linear_by_linear.specs.LinearSteps.{AreFitting, scored_of}
use Rattle.linear_by_linear.proofs.LinearTests.{bound-fits, fitting-of, observed-sum}
use Rattle.linear_by_linear.proofs.linear_table.prepare.Goals as goal

pub multinomial-requires : goal.multinomial-requires
multinomial-requires c = rw (c.as_slice.ensures ∙ c.in_ok-margins.ensures.rows) (omega (arith, table-few c.args.table.now))

pub returns-in_default : goal.returns-in_default
returns-in_default c =
    let t : ScoredTable = scored_of (table_data_of c.args.table.now) c.args.row_scores.now c.args.column_scores.now in
    label-wide (linear_says t) (rw (c.as_slice.ensures ∙ c.in_ok-margins.ensures.rows) at c.in_default.ensures)

pub invariant_of-sum : goal.invariant_of-sum
invariant_of-sum c =
    let total = rw (c.as_slice.ensures ∙ c.in_ok-margins.ensures.rows) at c.in-Some.ensures in
    rw (c.in_ok-us.ensures, c.in_ok-vs.ensures, c.in_ok-copy.ensures) (record {
      margins = c.in_ok-margins.ensures;
      row_scores = refl;
      column_scores = refl;
      fitting = fitting-of c.args.table.now c.args.row_scores.now c.args.column_scores.now total.0 c.requires.rows_level c.requires.columns_level c.requires.rows c.requires.columns;
    })

pub frame-frame-requires-clause-statistic : goal.frame-frame-requires-clause-statistic
frame-frame-requires-clause-statistic c =
    let t : ScoredTable = scored_of (table_data_of c.args.table.now) c.args.row_scores.now c.args.column_scores.now in
    let measured = rw (c.as_slice-2.ensures ∙ c.in_ok-us.ensures, c.as_slice-3.ensures ∙ c.in_ok-vs.ensures) at c.observed_sum-statistic.ensures in
    rw (c.in_ok-us.ensures, c.in_ok-vs.ensures, c.in_ok-copy.ensures) (to_z-of_z w128 c.observed_sum-statistic.result (search rules) ∙ measured ∙ observed-sum t c.requires.rows_level)

pub returns : goal.returns
returns c =
    let t : ScoredTable = scored_of (table_data_of c.args.table.now) c.args.row_scores.now c.args.column_scores.now in
    let total = rw (c.as_slice.ensures ∙ c.in_ok-margins.ensures.rows) at c.in-Some.ensures in
    let fit : AreFitting t = fitting-of c.args.table.now c.args.row_scores.now c.args.column_scores.now total.0 c.requires.rows_level c.requires.columns_level c.requires.rows c.requires.columns in
    (rw (c.framed.ensures, c.in_ok-us.ensures, c.in_ok-vs.ensures, c.in_ok-copy.ensures) refl, label-fits (linear_says t) total.0 (bound-fits t fit))

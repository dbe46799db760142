use Rattle.std.proofs.Common.{◌∙◌, rules, sym}
use mir.Syntax.{w128}
use Rattle.std.proofs.lemmas.Int.{to_z-of_z}
use Rattle.label_network.proofs.LinearValues.{statistic-table}
use Rattle.linear_by_linear.proofs.LinearTests.{are-scored}
use Rattle.linear_by_linear.proofs.linear_ways.ProductSumLabelStatistic.value.Goals as goal

pub labelled_sum-requires : goal.labelled_sum-requires
labelled_sum-requires c =
    let made = c.made-made.ensures in
    rw (c.as_slice.ensures ∙ made.row_scores, c.as_slice-2.ensures ∙ made.column_scores, c.as_slice-3.ensures ∙ made.margins.columns) (are-scored c.args.self.now made.fitting c.args.labels.now c.requires)

pub returns : goal.returns
returns c =
    let made = c.made-made.ensures in
    to_z-of_z w128 c.labelled_sum.result (search rules) ∙ c.labelled_sum.ensures
    ∙ rw (c.as_slice.ensures ∙ made.row_scores, c.as_slice-2.ensures ∙ made.column_scores, c.as_slice-3.ensures ∙ made.margins.columns) (sym (statistic-table c.args.self.now.row_scores c.args.self.now.column_scores _ c.args.labels.now))

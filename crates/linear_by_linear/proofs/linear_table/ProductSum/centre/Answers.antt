use Rattle.std.proofs.Common.{◌∙◌, rules, sym}
use mir.Syntax.{w128}
use Rattle.std.proofs.lemmas.Int.{to_z-of_z}
use Rattle.linear_by_linear.proofs.LinearTests.{as-long, as-wide, centre-fits, columns-fit, rows-fit}
use Rattle.linear_by_linear.proofs.linear_table.ProductSum.centre.Goals as goal

pub score_choice-requires-clause-level : goal.score_choice-requires-clause-level
score_choice-requires-clause-level c =
    let made = c.made-made.ensures in
    rw (c.as_slice.ensures ∙ made.row_scores, c.as_slice-2.ensures ∙ made.margins.rows) (sym (as-wide c.args.self.now made.fitting))

pub score_choice-requires-clause-small : goal.score_choice-requires-clause-small
score_choice-requires-clause-small c =
    let made = c.made-made.ensures in
    rw (c.as_slice.ensures ∙ made.row_scores, c.as_slice-2.ensures ∙ made.margins.rows) (rows-fit c.args.self.now made.fitting)

pub score_choice-requires-2-clause-level : goal.score_choice-requires-2-clause-level
score_choice-requires-2-clause-level c =
    let made = c.made-made.ensures in
    rw (c.as_slice-3.ensures ∙ made.column_scores, c.as_slice-4.ensures ∙ made.margins.columns) (sym (as-long c.args.self.now made.fitting))

pub score_choice-requires-2-clause-small : goal.score_choice-requires-2-clause-small
score_choice-requires-2-clause-small c =
    let made = c.made-made.ensures in
    rw (c.as_slice-3.ensures ∙ made.column_scores, c.as_slice-4.ensures ∙ made.margins.columns) (columns-fit c.args.self.now made.fitting)

pub times-requires : goal.times-requires
times-requires c =
    let made = c.made-made.ensures in
    rw (to_z-of_z w128 c.score_choice.result (search rules) ∙ c.score_choice.ensures, to_z-of_z w128 c.score_choice-2.result (search rules) ∙ c.score_choice-2.ensures, c.as_slice.ensures ∙ made.row_scores, c.as_slice-2.ensures ∙ made.margins.rows, c.as_slice-3.ensures ∙ made.column_scores, c.as_slice-4.ensures ∙ made.margins.columns)
    (centre-fits c.args.self.now made.fitting)

pub returns : goal.returns
returns c =
    let made = c.made-made.ensures in
    to_z-of_z w128 c.times.result (search rules)
    ∙ rw (to_z-of_z w128 c.score_choice.result (search rules) ∙ c.score_choice.ensures, to_z-of_z w128 c.score_choice-2.result (search rules) ∙ c.score_choice-2.ensures, c.as_slice.ensures ∙ made.row_scores, c.as_slice-2.ensures ∙ made.margins.rows, c.as_slice-3.ensures ∙ made.column_scores, c.as_slice-4.ensures ∙ made.margins.columns) at c.times.ensures

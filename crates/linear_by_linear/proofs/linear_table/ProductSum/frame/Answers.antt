use Rattle.std.proofs.Common.{◌∙◌, ap, arith, refl, rules, sym}
use Rattle.std.specs.List.{sum}
use mir.Syntax.{w128}
use Rattle.std.proofs.lemmas.Int.{to_z-of_z}
use Rattle.weights.proofs.Centred.{framed}
use Rattle.labelled.specs.LabelTests.{LabelTest, label_test}
use Rattle.labelled.proofs.LabelLaws.{total-of}
use Rattle.table_sums.proofs.MarginSums.{subjects-few}
use Rattle.linear_by_linear.specs.LinearByLinear.{linear_says}
use Rattle.linear_by_linear.proofs.LinearTests.{is-within}
use Rattle.linear_by_linear.proofs.linear_table.ProductSum.frame.Goals as goal

pub total_of-factor-requires : goal.total_of-factor-requires
total_of-factor-requires c = rw (c.as_slice.ensures ∙ c.made.ensures.margins.rows) (omega (arith, subjects-few c.args.self.now.table c.made.ensures.fitting.table))

pub far-requires : goal.far-requires
far-requires c =
    let w = is-within c.args.self.now c.made.ensures.fitting in
    rw (c.total_of-factor.ensures ∙ ap sum (c.as_slice.ensures ∙ c.made.ensures.margins.rows), to_z-of_z w128 c.centre.result (search rules) ∙ c.centre.ensures, to_z-of_z w128 c.args.statistic c.ranges.statistic ∙ c.requires.statistic) (w.fits _ w.observed)

pub returns : goal.returns
returns c =
    let t : LabelTest = linear_says c.args.self.now in
    rw (c.far.ensures, c.total_of-factor.ensures ∙ ap sum (c.as_slice.ensures ∙ c.made.ensures.margins.rows), to_z-of_z w128 c.centre.result (search rules) ∙ c.centre.ensures, to_z-of_z w128 c.args.statistic c.ranges.statistic ∙ c.requires.statistic)
    (framed t.factor t.centre (label_test t) _ refl refl refl (c.requires.total ∙ sym (total-of t)) refl)

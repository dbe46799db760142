use Rattle.std.proofs.Common.{rules, ◌∙◌, arith, ap, sym}
use Rattle.std.specs.Prelude.{pos}
use mir.Syntax.{w128}
use Rattle.std.proofs.lemmas.Int.{to_z-of_z}
use Rattle.weights.proofs.Members.{labelling_from}
use Rattle.sample_reader.specs.Groups.{group_sizes}
use Rattle.pooled_columns.specs.PooledColumns.{pooled_values}
use Rattle.pooled_columns.proofs.TieColumns.{columns-sum}
use Rattle.ordered_samples.proofs.FittingUmbrella.{pairs_are, points-of}
use Rattle.ordered_samples.proofs.umbrella.PeakedSamplesLabelStatistic.value.Goals as goal

pub labelling_points-requires-clause-few_rows : goal.labelling_points-requires-clause-few_rows
labelling_points-requires-clause-few_rows c = rw (c.as_slice-2.ensures ∙ c.made-made.ensures.sizes) c.made-made.ensures.few_rows

pub labelling_points-requires-clause-pairs : goal.labelling_points-requires-clause-pairs
labelling_points-requires-clause-pairs c = rw (c.as_slice-2.ensures ∙ c.made-made.ensures.sizes, c.as_slice.ensures.value ∙ c.made-made.ensures.pairs) (pairs_are c.args.self.now c.made-made.result.now c.made-made.ensures)

pub labelling_points-requires-clause-few : goal.labelling_points-requires-clause-few
labelling_points-requires-clause-few c = rw (c.as_slice-2.ensures ∙ c.made-made.ensures.sizes) (omega (arith, c.made-made.ensures.whole, c.made-made.ensures.few))

pub labelling_points-requires-clause-labels : goal.labelling_points-requires-clause-labels
labelling_points-requires-clause-labels c = rw (c.as_slice-2.ensures ∙ c.made-made.ensures.sizes) (labelling_from (group_sizes c.args.self.now.groups) c.args.labels.now c.requires).counted

pub labelling_points-requires-clause-columns : goal.labelling_points-requires-clause-columns
labelling_points-requires-clause-columns c =
    rw (c.as_slice-3.ensures ∙ c.made-made.ensures.columns) (record { whole = (labelling_from (group_sizes c.args.self.now.groups) c.args.labels.now c.requires).over.long ∙ c.made-made.ensures.whole ∙ sym (columns-sum (pooled_values c.args.self.now.groups)) })

pub returns : goal.returns
returns c =
    let points = rw (c.as_slice-2.ensures ∙ c.made-made.ensures.sizes, c.as_slice.ensures.value ∙ c.made-made.ensures.pairs, c.as_slice-3.ensures ∙ c.made-made.ensures.columns) at c.labelling_points.ensures in
    to_z-of_z w128 c.labelling_points.result (search rules) ∙ points ∙ ap pos (points-of c.args.self.now c.made-made.result.now c.made-made.ensures c.args.labels.now c.requires)

use Rattle.std.proofs.Common.{rules, ◌≡◌, ◌∙◌, arith, ap}
use Rattle.std.specs.Prelude.{pos}
use mir.Syntax.{w128}
use Rattle.std.proofs.lemmas.Int.{to_z-of_z}
use Rattle.label_network.proofs.Narrowing.{fits-self}
use Rattle.ordered_samples.specs.UmbrellaSteps.{points_from}
use Rattle.ordered_samples.proofs.PairFits.{pairs-most}
use Rattle.ordered_samples.proofs.Placing.{points-bounded}
use Rattle.ordered_samples.proofs.pair_points.labelling_points.Goals as goal

pub place_columns-requires-clause-left : goal.place_columns-requires-clause-left
place_columns-requires-clause-left c = rw c.copy_from_slice.ensures.after (fits-self c.args.rows.now)

pub whole-requires : goal.whole-requires
whole-requires c =
    let points : c.place_columns.result ≡ points_from c.args.pairs.now c.args.rows.now c.args.rows.now c.args.columns.now c.args.labels.now = c.place_columns.ensures ∙ ap (λ left. points_from c.args.pairs.now c.args.rows.now left c.args.columns.now c.args.labels.now) c.copy_from_slice.ensures.after in
    omega (arith, points, points-bounded c.args.pairs.now c.args.rows.now c.args.columns.now c.args.labels.now c.requires.labels, pairs-most c.args.pairs.now c.args.rows.now c.requires.pairs.few c.requires.few)

pub returns : goal.returns
returns c =
    to_z-of_z w128 c.whole.result (search rules) ∙ c.whole.ensures ∙ ap pos (c.place_columns.ensures ∙ ap (λ left. points_from c.args.pairs.now c.args.rows.now left c.args.columns.now c.args.labels.now) c.copy_from_slice.ensures.after)

use Rattle.std.proofs.Common.{rules, ◌≡◌, ◌∙◌, FitsSigned, pos, arith}
use mir.Syntax.{w128}
use mir.Val.{to_z, of_z}
use Rattle.std.proofs.lemmas.Int.{ints, to_z-of_z}
use Rattle.scores.specs.Scores.{labelled_sum}
use Rattle.stratified_ranks.proofs.RankLimits.{value-apart}
use Rattle.stratified_ranks.proofs.rank_made.frame_of.Goals as goal

pub far-requires : goal.far-requires
far-requires c =
    let s : FitsSigned w128 c.labelled_sum-statistic.result = search rules in
    let statistic : to_z w128 (of_z w128 c.labelled_sum-statistic.result) ≡ labelled_sum 1 c.args.ranks.now c.args.labels.now = to_z-of_z w128 c.labelled_sum-statistic.result s ∙ c.labelled_sum-statistic.ensures in
    let centre : to_z w128 c.args.centre ≡ pos c.args.centre = omega (arith, ints, c.requires.centre, c.requires.fits) in
    rw (statistic, centre) (value-apart c.args.ranks.now c.args.labels.now c.args.centre c.requires.fits c.requires.centre)

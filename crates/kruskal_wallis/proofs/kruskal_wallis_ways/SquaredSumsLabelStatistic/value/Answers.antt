use Rattle.std.proofs.Common.{rules, ◌∙◌}
use mir.Syntax.{w128}
use Rattle.std.proofs.lemmas.Int.{to_z-of_z}
use Rattle.kruskal_wallis.proofs.FittingKruskalWallis.{sum-fits, statistic-within}
use Rattle.kruskal_wallis.proofs.kruskal_wallis_ways.SquaredSumsLabelStatistic.value.Goals as goal

pub squares_statistic-requires-clause-few_rows : goal.squares_statistic-requires-clause-few_rows
squares_statistic-requires-clause-few_rows c = rw (c.as_slice-2.ensures ∙ c.made-made.ensures.sizes) c.made-made.ensures.fitting.few_rows

pub squares_statistic-requires-clause-factors : goal.squares_statistic-requires-clause-factors
squares_statistic-requires-clause-factors c = rw (c.as_slice-2.ensures ∙ c.made-made.ensures.sizes) (c.as_slice-3.ensures.value ∙ c.made-made.ensures.factors)

pub squares_statistic-requires-clause-sums_fit : goal.squares_statistic-requires-clause-sums_fit
squares_statistic-requires-clause-sums_fit c = rw (c.as_slice.ensures ∙ c.made-made.ensures.scores) (sum-fits c.args.self.now c.made-made.ensures.fitting)

pub squares_statistic-requires-clause-within : goal.squares_statistic-requires-clause-within
squares_statistic-requires-clause-within c =
    rw (c.as_slice.ensures ∙ c.made-made.ensures.scores, c.as_slice-2.ensures ∙ c.made-made.ensures.sizes, c.as_slice-3.ensures.value ∙ c.made-made.ensures.factors, c.made-made.ensures.bound)
    (statistic-within c.args.self.now c.args.labels.now)

pub squares_statistic-requires-clause-fits : goal.squares_statistic-requires-clause-fits
squares_statistic-requires-clause-fits c = rw c.made-made.ensures.bound c.made-made.ensures.fitting.bound_fits

pub returns : goal.returns
returns c =
    to_z-of_z w128 c.squares_statistic.result (search rules) ∙ (rw (c.as_slice.ensures ∙ c.made-made.ensures.scores, c.as_slice-2.ensures ∙ c.made-made.ensures.sizes) at c.squares_statistic.ensures)

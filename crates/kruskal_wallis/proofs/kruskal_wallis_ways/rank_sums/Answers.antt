use Rattle.std.proofs.Common.{◌∙◌, ap, length, refl, sym}
use Rattle.kruskal_wallis.specs.KruskalWallis.{ScoredGroups}
use Rattle.kruskal_wallis.proofs.FittingKruskalWallis.{is-squaring, scores-long}
use Rattle.kruskal_wallis.proofs.kruskal_wallis_ways.rank_sums.Goals as goal

pub new-requires-clause-subjects : goal.new-requires-clause-subjects
new-requires-clause-subjects c =
    let made = c.made-made.ensures in
    rw (c.as_slice-4.ensures ∙ made.sizes, c.len.ensures ∙ ap length made.scores) (scores-long c.args.problem.now ∙ sym made.fitting.whole)

pub new-requires-clause-fits : goal.new-requires-clause-fits
new-requires-clause-fits c =
    let made = c.made-made.ensures in
    rw (c.as_slice-4.ensures ∙ made.sizes, c.as_slice-3.ensures ∙ made.column_sizes, c.as_slice.ensures.value ∙ made.factors, made.bound, c.as_slice-2.ensures ∙ made.column_scores) (is-squaring c.args.problem.now made.fitting c.args.judge c.requires)

pub returns : goal.returns
returns c =
    let samples : ScoredGroups = c.args.problem.now in
    let made = c.made-made.ensures in
    record {
      meaning = c.in_ok-sums.ensures.meaning ∙ rw (c.as_slice.ensures.value ∙ made.factors, made.bound, c.as_slice-2.ensures ∙ made.column_scores, c.as_slice-3.ensures ∙ made.column_sizes, c.as_slice-4.ensures ∙ made.sizes, c.requires) refl;
      bound = c.in_ok-sums.ensures.bound ∙ made.bound;
      factors = c.in_ok-sums.ensures.factors ∙ c.as_slice.ensures.value ∙ made.factors;
      scores = c.in_ok-sums.ensures.scores ∙ c.as_slice-2.ensures ∙ made.column_scores;
    }

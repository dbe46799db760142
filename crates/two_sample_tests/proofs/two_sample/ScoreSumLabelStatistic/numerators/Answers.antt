use Rattle.std.proofs.Common.{◌≡◌, ℕ, List, true, get_or, rules, refl, sym, ◌∙◌, ap}
use Rattle.std.specs.Prelude.{ℤ, slice_index}
use Rattle.std.proofs.lemmas.Int.{to_z-of_z}
use Rattle.std.proofs.lemmas.Result.{IfOk-weaker}
use mir.Syntax.{w128}
use Rattle.weights.specs.declared.tails.Tail.{Tail}
use Rattle.sample_reader.specs.Groups.{group_sizes}
use Rattle.weights.specs.Conditional.{numerator}
use Rattle.networks.specs.Asked.{asks}
use Rattle.networks.specs.declared.verdicts.Judge.{Judge}
use Rattle.networks.specs.Follows.{AreNumerators}
use Rattle.networks.specs.Judged.{judge_of, rule_in}
use Rattle.networks.specs.EachTail.{sum_for}
use Rattle.concordant_pairs.specs.ConcordantTails.{passing_labellings}
use Rattle.two_sample_tests.specs.EvenSteps.{AreEven, least_sum}
use Rattle.score_convolution.specs.DrawnSums.{passing_draws}
use Rattle.two_sample_tests.proofs.DrawnSamples.{draws-fit, numerator-drawn, sums-fit}
use Rattle.two_sample_tests.proofs.EvenSums.{fit-concordant, numerator-rises}
use Rattle.weights.specs.declared.tails.Tail.TheVariants.{Less}
use Rattle.score_convolution.proofs.Numerators.{judged, numerator-is}
use Rattle.labelled.specs.declared.linear.ScoredLabels.{ScoredLabels}
use Rattle.label_network.specs.LabelNetwork.{label_network}
use Rattle.two_sample_tests.specs.Columns.{two_sample_meaning}
use Rattle.two_sample_tests.specs.SampleSteps.{AreFitting}
use Rattle.two_sample_tests.specs.TwoSamples.{TwoSamples, pooled_scores, two_sample_test}
use Rattle.two_sample_tests.proofs.two_sample.ScoreSumLabelStatistic.numerators.Goals as goal

pub concordant_sums-requires-clause-fits : goal.concordant_sums-requires-clause-fits
concordant_sums-requires-clause-fits c =
    let samples : TwoSamples = c.args.self.now in
    let sizes : c.as_slice-sizes.result.now ≡ group_sizes samples.groups = c.as_slice-sizes.ensures ∙ ap (λ (s : ScoredLabels). s.sizes) (c.scored-made.ensures.scored ∙ c.made.ensures.is) in
    let are : AreEven c.in-Some.even (pooled_scores samples) = rw (c.as_slice-scores.ensures ∙ ap (λ (s : ScoredLabels). s.scores) (c.scored-made.ensures.scored ∙ c.made.ensures.is)) at c.in-Some.ensures in
    rw (to_z-of_z w128 c.least_sum-base.result (search rules) ∙ (c.least_sum-base.ensures.is ∙ ap (λ ns. least_sum c.in-Some.even (slice_index ns 1)) sizes), sizes) (fit-concordant samples c.made.ensures.fitting c.in-Some.even are c.args.judge c.requires.judge)

pub returns-in-Some : goal.returns-in-Some
returns-in-Some c =
    let samples : TwoSamples = c.args.self.now in
    let sizes : c.as_slice-sizes.result.now ≡ group_sizes samples.groups = c.as_slice-sizes.ensures ∙ ap (λ (s : ScoredLabels). s.sizes) (c.scored-made.ensures.scored ∙ c.made.ensures.is) in
    let are : AreEven c.in-Some.even (pooled_scores samples) = rw (c.as_slice-scores.ensures ∙ ap (λ (s : ScoredLabels). s.scores) (c.scored-made.ensures.scored ∙ c.made.ensures.is)) at c.in-Some.ensures in
    let told = rw (to_z-of_z w128 c.least_sum-base.result (search rules) ∙ (c.least_sum-base.ensures.is ∙ ap (λ ns. least_sum c.in-Some.even (slice_index ns 1)) sizes), sizes, c.requires.judge) at c.concordant_sums.ensures in
    IfOk-weaker c.concordant_sums.result
    (λ sums. (t : Tail) → (sum_for sums t).sum ≡ passing_labellings (rule_in (judge_of (two_sample_test samples)) t) (least_sum c.in-Some.even (slice_index (group_sizes samples.groups) 1)) c.in-Some.even.step (group_sizes samples.groups))
    (AreNumerators (two_sample_test samples) c.args.tails)
    (λ sums each t asked. each t ∙ sym (numerator-rises samples c.made.ensures.fitting c.in-Some.even are t)) told

pub drawn_sums-requires-clause-total : goal.drawn_sums-requires-clause-total
drawn_sums-requires-clause-total c =
    let samples : TwoSamples = c.args.self.now in
    let scores : c.as_slice-scores.result.now ≡ pooled_scores samples = c.as_slice-scores.ensures ∙ ap (λ (s : ScoredLabels). s.scores) (c.scored-made.ensures.scored ∙ c.made.ensures.is) in
    let sizes : c.as_slice-sizes.result.now ≡ group_sizes samples.groups = c.as_slice-sizes.ensures ∙ ap (λ (s : ScoredLabels). s.sizes) (c.scored-made.ensures.scored ∙ c.made.ensures.is) in
    rw (scores, sizes) (draws-fit samples c.made.ensures.fitting)

pub drawn_sums-requires-clause-small : goal.drawn_sums-requires-clause-small
drawn_sums-requires-clause-small c =
    let samples : TwoSamples = c.args.self.now in
    let scores : c.as_slice-scores.result.now ≡ pooled_scores samples = c.as_slice-scores.ensures ∙ ap (λ (s : ScoredLabels). s.scores) (c.scored-made.ensures.scored ∙ c.made.ensures.is) in
    rw scores (sums-fit samples c.made.ensures.fitting)

-- what the network has is drawn
passing-is : (samples : TwoSamples) → AreFitting samples → (judge : Judge) (scores : List ℤ) (sizes : List ℕ) → judge ≡ judge_of (two_sample_test samples) → scores ≡ pooled_scores samples → sizes ≡ group_sizes samples.groups → (t : Tail)
    → numerator (two_sample_test samples) t ≡ passing_draws (rule_in judge t) (get_or sizes 1 0) scores
passing-is samples fitting judge scores sizes e f h t = rw (e, f, h) (numerator-drawn samples fitting t)

pub drawn_sums-requires-clause-judged : goal.drawn_sums-requires-clause-judged
drawn_sums-requires-clause-judged c = record {
  judge = c.args.judge;
  intervals = judged (two_sample_test c.args.self.now) _ (label_network (two_sample_meaning c.args.self.now)) _ c.in_ok-stages.ensures c.requires.judge (c.sound.ensures.follows Less);
}

pub drawn_sums-requires-clause-same : goal.drawn_sums-requires-clause-same
drawn_sums-requires-clause-same c t =
    let samples : TwoSamples = c.args.self.now in
    numerator-is (two_sample_test samples) t _ (label_network (two_sample_meaning samples)) _ c.in_ok-stages.ensures (c.sound.ensures.follows t) refl
    ∙ passing-is samples c.made.ensures.fitting c.args.judge _ _ c.requires.judge
    (c.as_slice-scores.ensures ∙ ap (λ (s : ScoredLabels). s.scores) (c.scored-made.ensures.scored ∙ c.made.ensures.is))
    (c.as_slice-sizes.ensures ∙ ap (λ (s : ScoredLabels). s.sizes) (c.scored-made.ensures.scored ∙ c.made.ensures.is))
    t

pub returns : goal.returns
returns c =
    let samples : TwoSamples = c.args.self.now in
    IfOk-weaker c.drawn_sums.result
    (λ sums. (t : Tail) → asks c.args.tails t ≡ true → (sum_for sums t).sum ≡ passing_draws (rule_in c.args.judge t) (get_or c.as_slice-sizes.result.now 1 0) c.as_slice-scores.result.now)
    (AreNumerators (two_sample_test samples) c.args.tails)
    (λ sums each t asked. each t asked ∙ sym (passing-is samples c.made.ensures.fitting c.args.judge _ _ c.requires.judge
    (c.as_slice-scores.ensures ∙ ap (λ (s : ScoredLabels). s.scores) (c.scored-made.ensures.scored ∙ c.made.ensures.is))
    (c.as_slice-sizes.ensures ∙ ap (λ (s : ScoredLabels). s.sizes) (c.scored-made.ensures.scored ∙ c.made.ensures.is))
    t)) c.drawn_sums.ensures

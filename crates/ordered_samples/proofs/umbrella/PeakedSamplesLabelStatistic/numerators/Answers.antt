use Rattle.std.proofs.Common.{◌≡◌, ◌≤◌, length, true, sym, ◌∙◌, ap, arith}
use Rattle.std.specs.Prelude.{pos}
use Rattle.std.proofs.lemmas.Result.{IfOk-weaker}
use Rattle.weights.specs.declared.tails.Tail.{Tail}
use Rattle.weights.specs.declared.tails.Tail.TheVariants.{Less}
use Rattle.sample_reader.specs.Groups.{group_sizes}
use Rattle.networks.specs.Follows.{AreNumerators}
use Rattle.networks.specs.Judged.{judge_of, rule_in}
use Rattle.networks.specs.EachTail.{sum_for}
use Rattle.networks.proofs.Following.{extreme-is}
use Rattle.pooled_columns.specs.PooledColumns.{column_sizes, pooled_values}
use Rattle.concordant_pairs.specs.ConcordantPairs.{are_distinct}
use Rattle.concordant_pairs.specs.ConcordantTails.{passing_labellings}
use Rattle.ordered_samples.specs.Umbrella.{PeakedGroups, umbrella_test}
use Rattle.ordered_samples.proofs.FittingUmbrella.{within}
use Rattle.ordered_samples.proofs.ConcordantPoints.{fit-concordant, numerator-rises}
use Rattle.ordered_samples.proofs.umbrella.PeakedSamplesLabelStatistic.numerators.Goals as goal

pub concordant_sums-requires-clause-fits : goal.concordant_sums-requires-clause-fits
concordant_sums-requires-clause-fits c =
    let samples : PeakedGroups = c.args.self.now in
    let made = c.made-made.ensures in
    let sizes : c.as_slice-sizes.result.now ≡ group_sizes samples.groups = c.as_slice-sizes.ensures ∙ made.sizes in
    let rises : length (group_sizes samples.groups) ≤ samples.peak = omega (arith, ap (λ (s : PeakedGroups). s.peak) c.self.view_is, rw sizes at c.if-sizes-self.true) in
    let distinct : are_distinct (column_sizes (pooled_values samples.groups)) ≡ true = rw (c.as_slice.ensures ∙ made.columns) at (sym c.are_distinct.ensures ∙ c.if-are_distinct.true) in
    rw sizes (fit-concordant samples rises distinct made.whole c.args.judge c.requires.judge (within samples c.made-made.result.now made))

pub returns-then-are_distinct : goal.returns-then-are_distinct
returns-then-are_distinct c =
    let samples : PeakedGroups = c.args.self.now in
    let made = c.made-made.ensures in
    let sizes : c.as_slice-sizes.result.now ≡ group_sizes samples.groups = c.as_slice-sizes.ensures ∙ made.sizes in
    let rises : length (group_sizes samples.groups) ≤ samples.peak = omega (arith, ap (λ (s : PeakedGroups). s.peak) c.self.view_is, rw sizes at c.if-sizes-self.true) in
    let distinct : are_distinct (column_sizes (pooled_values samples.groups)) ≡ true = rw (c.as_slice.ensures ∙ made.columns) at (sym c.are_distinct.ensures ∙ c.if-are_distinct.true) in
    IfOk-weaker c.concordant_sums.result
    (λ sums. (t : Tail) → (sum_for sums t).sum ≡ passing_labellings (rule_in (judge_of (umbrella_test samples)) t) (pos 0) 2 (group_sizes samples.groups))
    (AreNumerators (umbrella_test samples) c.args.tails)
    (λ sums each t asked. each t ∙ sym (numerator-rises samples rises distinct made.whole t)) (rw (sizes, c.requires.judge) at c.concordant_sums.ensures)

pub tail_sums_by_rooms-requires : goal.tail_sums_by_rooms-requires
tail_sums_by_rooms-requires c =
    record { judge = judge_of (umbrella_test c.args.self.now); intervals = (c.in_ok-stages.ensures Less).intervals }

pub returns : goal.returns
returns c t a = c.in_ok-sums.ensures.sum t a ∙ extreme-is (umbrella_test c.args.self.now) t _ (c.in_ok-stages.ensures t)

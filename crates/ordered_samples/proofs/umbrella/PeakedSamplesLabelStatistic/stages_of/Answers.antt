use Rattle.std.proofs.Common.{◌≡◌, ℕ, List, length, ◌∙◌, ap}
use Rattle.sample_reader.specs.Groups.{group_sizes}
use Rattle.pooled_columns.specs.PooledColumns.{column_sizes, pooled_values}
use Rattle.ordered_samples.specs.declared.used_pairs.UsedPair.{UsedPair}
use Rattle.label_network.specs.LabelNetwork.{label_network}
use Rattle.ordered_samples.specs.PairCounts.{pairs_meaning, umbrella_meaning}
use Rattle.ordered_samples.specs.declared.pair_counts.PairCounts.{PairCounts}
use Rattle.ordered_samples.specs.Umbrella.{PeakedGroups, used_pairs}
use Rattle.ordered_samples.proofs.FittingUmbrella.{is-counting}
use Rattle.ordered_samples.proofs.umbrella.PeakedSamplesLabelStatistic.stages_of.Goals as goal

pub new-requires : goal.new-requires
new-requires c =
    let made = c.made-made.ensures in
    rw (c.as_slice.ensures.value ∙ made.pairs, c.as_slice-rows.ensures ∙ made.sizes, c.as_slice-columns.ensures ∙ made.columns) (is-counting c.args.self.now c.made-made.result.now made c.args.judge c.requires)

pub returns : goal.returns
returns c =
    let samples : PeakedGroups = c.args.self.now in
    let made = c.made-made.ensures in
    let pairs : List UsedPair = used_pairs samples.peak (length (group_sizes samples.groups)) in
    let sizes : List ℕ = group_sizes samples.groups in
    let given = c.in_ok-measure.ensures
    ∙ ap (λ x. pairs_meaning x c.as_slice-rows.result.now c.as_slice-columns.result.now c.args.judge) (c.as_slice.ensures.value ∙ made.pairs)
    ∙ ap (λ x. pairs_meaning pairs x c.as_slice-columns.result.now c.args.judge) (c.as_slice-rows.ensures ∙ made.sizes)
    ∙ ap (λ x. pairs_meaning pairs sizes x c.args.judge) (c.as_slice-columns.ensures ∙ made.columns)
    ∙ ap (pairs_meaning pairs sizes (column_sizes (pooled_values samples.groups))) c.requires in
    let same : (m : PairCounts) → m ≡ c.in_ok-measure.measure → label_network (pairs_meaning m.pairs.items m.rows.items m.columns.items m.judge) ≡ label_network (umbrella_meaning samples) = λ m e. ap (λ (m : PairCounts). label_network (pairs_meaning m.pairs.items m.rows.items m.columns.items m.judge)) e ∙ ap label_network given in
    same c.in_ok-labels.labels.1 (c.in_ok-labels.ensures.measure ∙ c.new-2.ensures)

use Rattle.std.proofs.Common.{◌≡◌, ◌∙◌, ℕ, take, ap, refl, subst, sym, arith}
use Rattle.std.specs.List.{sum}
use Rattle.node_pool.specs.Nodes.{weighted}
use Rattle.node_pool.specs.PoolSteps.{nodes_of}
use Rattle.networks.specs.Completions.{extreme_weight}
use Rattle.networks.specs.Network.{Network}
use Rattle.label_network.specs.LabelNetwork.{label_network}
use Rattle.stage_network.specs.FromKeys.{AreStarts}
use Rattle.table_sums.specs.Tables.{column_sums}
use Rattle.table_sums.proofs.MarginSums.{even, subjects-few}
use Rattle.linear_by_linear.specs.LinearByLinear.{ScoredTable}
use Rattle.linear_by_linear.specs.LinearNetworks.{product_meaning, subject_meaning}
use Rattle.linear_by_linear.proofs.OwnKeys.{own-starts, own-sum}
use Rattle.linear_by_linear.proofs.SplitColumns.{columns-go_on}
use Rattle.linear_by_linear.proofs.linear_ways.sum_by_subjects.Goals as goal

pub subjects_before-at-requires-clause-within : goal.subjects_before-at-requires-clause-within
subjects_before-at-requires-clause-within c = rw (c.as_slice.ensures ∙ c.made.ensures.margins.columns) c.requires.starts.within

pub subjects_before-at-requires-clause-few : goal.subjects_before-at-requires-clause-few
subjects_before-at-requires-clause-few c =
    rw (c.as_slice.ensures ∙ c.made.ensures.margins.columns) (omega (arith, even c.args.sum.now.table, subjects-few c.args.sum.now.table c.made.ensures.fitting.table))

pub sum_from_keys-requires : goal.sum_from_keys-requires
sum_from_keys-requires c =
    let t : ScoredTable = c.args.sum.now in
    let n : Network = label_network (product_meaning t) in
    let q : Network = label_network (subject_meaning t) in
    let g : ℕ = c.args.stage in
    let h : ℕ = sum (take g (column_sums t.table)) in
    let at : c.subjects_before-at.result ≡ h = c.subjects_before-at.ensures ∙ ap (λ cs. sum (take g cs)) (c.as_slice.ensures ∙ c.made.ensures.margins.columns) in
    subst (λ (m : Network). AreStarts m c.subjects_before-at.result c.args.keys.now c.args.weights.now) (sym c.in_ok-stages.ensures)
    (subst (λ i. AreStarts q i c.args.keys.now c.args.weights.now) (sym at)
    (own-starts n q refl g h (columns-go_on t c.made.ensures.fitting g) c.args.keys.now c.args.weights.now c.requires.starts))

pub returns : goal.returns
returns c =
    let t : ScoredTable = c.args.sum.now in
    let n : Network = label_network (product_meaning t) in
    let q : Network = label_network (subject_meaning t) in
    let g : ℕ = c.args.stage in
    let h : ℕ = sum (take g (column_sums t.table)) in
    let at : c.subjects_before-at.result ≡ h = c.subjects_before-at.ensures ∙ ap (λ cs. sum (take g cs)) (c.as_slice.ensures ∙ c.made.ensures.margins.columns) in
    c.in_ok-sum.ensures
    ∙ ap (λ (m : Network). weighted (extreme_weight m c.args.tail c.subjects_before-at.result) (nodes_of m.width c.args.keys.now c.args.weights.now)) c.in_ok-stages.ensures
    ∙ ap (λ i. weighted (extreme_weight q c.args.tail i) (nodes_of q.width c.args.keys.now c.args.weights.now)) at
    ∙ own-sum n q refl g h (columns-go_on t c.made.ensures.fitting g) c.args.keys.now c.args.weights.now c.requires.starts c.args.tail

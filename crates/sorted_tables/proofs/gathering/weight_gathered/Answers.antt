use Rattle.std.proofs.Common.{◌≡◌, ◌≤◌, ◌*◌, ℕ, List, sym, ◌∙◌, ap, arith}
use Rattle.std.specs.List.{sum}
use Rattle.weights.specs.Labellings.{number_of_labellings}
use Rattle.label_network.proofs.Narrowing.{chosen}
use Rattle.sorted_tables.specs.GatheredChoices.{gathered_weight}
use Rattle.sorted_tables.specs.SortedSteps.{gathered_count}
use Rattle.sorted_tables.proofs.GatheredChoices.{weighs-itself}
use Rattle.sorted_tables.proofs.GatheredSums.{weight-gathered}
use Rattle.sorted_tables.proofs.gathering.weight_gathered.Goals as goal

weighed : (counts rows : List ℕ) (weight number : ℕ) → weight ≡ number_of_labellings counts → number ≡ gathered_count rows counts → weight * number ≡ gathered_weight rows counts
weighed counts rows weight number w n =
    let product : gathered_weight rows counts ≡ gathered_count rows counts * number_of_labellings counts = weight-gathered (sum counts) rows counts in
    turned weight number (gathered_weight rows counts) (ap (λ m. m * weight) n ∙ ap (λ m. gathered_count rows counts * m) w ∙ sym product)
  where
    turned : (u v w : ℕ) → v * u ≡ w → u * v ≡ w
    turned u v w e = grind (arith, e)

pub weight_in-requires-clause-fits : goal.weight_in-requires-clause-fits
weight_in-requires-clause-fits c =
    let itself : number_of_labellings c.args.counts.now ≤ gathered_weight c.args.rows.now c.args.counts.now = weighs-itself c.args.column c.args.rows.now c.args.counts.now (chosen c.args.column c.args.rows.now c.args.counts.now c.requires.allowed) c.requires.gathered in
    omega (arith, itself, c.requires.fits)

pub overflow_mul-result : goal.overflow_mul-result
overflow_mul-result c =
    let product : c.weight_in.result * c.count_gathered.result ≡ gathered_weight c.args.rows.now c.args.counts.now = weighed c.args.counts.now c.args.rows.now c.weight_in.result c.count_gathered.result c.weight_in.ensures c.count_gathered.ensures in
    omega (arith, product, c.requires.fits)

pub returns : goal.returns
returns c = weighed c.args.counts.now c.args.rows.now c.weight_in.result c.count_gathered.result c.weight_in.ensures c.count_gathered.ensures

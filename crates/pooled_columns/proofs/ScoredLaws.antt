-- What holds of groups by scores of a kind.
use Rattle.std.proofs.Common.{◌≡◌, ℕ, ◌*◌, ◌^◌, ◌<◌, ◌≤◌, List, [], ◌∷◌, length, map, sym, ◌∙◌, arith}
use Rattle.std.specs.Prelude.{ℤ}
use Rattle.std.specs.List.{AllByRecursion, sum}
use Rattle.std.proofs.Math.Nat.{mul-le-mul}
use Rattle.std.proofs.lemmas.List.{length-map}
use Rattle.std.proofs.lemmas.List.Elements.{recursion_from_All}
use Rattle.std.proofs.lemmas.List.Sums.{sum_by-cons}
use Rattle.weights.specs.declared.wide.PrepareFault.{PrepareFault}
use Rattle.weights.specs.declared.wide.PrepareFault.TheVariants.{TooWide, NoMemory}
use Rattle.weights.specs.declared.wide.WideOf.TheVariants.{Total, Statistic}
use Rattle.completion_bounds.specs.Pairings.{greatest_score}
use Rattle.midranks.specs.Ties.{tie_groups}
use Rattle.midranks.specs.declared.ties.Tie.{Tie}
use Rattle.midranks.proofs.TieLemmas.{groups-counts}
use Rattle.scores.specs.Scores.{score_list, score_of, score_sum}
use Rattle.scores.specs.declared.kinds.ScoreKind.{ScoreKind}
use Rattle.sample_reader.specs.Data.{data_of}
use Rattle.sample_reader.specs.Groups.{group_sizes}
use Rattle.sample_reader.specs.declared.samples.Groups.{Groups}
use Rattle.labelled.specs.LabelTests.{IsRefusedBy}
use Rattle.labelled.specs.LinearTests.{AreScoredLabels, linear_says}
use Rattle.pooled_columns.specs.PooledColumns.{pooled_values}
use Rattle.pooled_columns.specs.ScoredGroups.{scored_groups}
use Rattle.pooled_columns.proofs.GroupFacts.{few_rows, few_subjects, none-empty, observed-labelling, rows-long, sizes-whole, some_rows}
use Rattle.pooled_columns.proofs.PooledValues.{pooled-rises}
use Rattle.pooled_columns.proofs.TieColumns.{grouped}

sum-some : (sizes : List ℕ) → AllByRecursion (λ n. 0 < n) sizes → length sizes ≤ sum sizes
sum-some [] some = omega arith
sum-some (n ∷ sizes) some = omega (arith, some.0, sum-some sizes some.1, sum_by-cons (λ v. v) n sizes)

counts-some : (ts : List Tie) → AllByRecursion (λ t. 0 < t.count) ts → AllByRecursion (λ c. 0 < c) (map (λ t. t.count) ts)
counts-some [] all = tt
counts-some (t ∷ ts) all = (all.0, counts-some ts all.1)

module _ (kind : ScoreKind) (groups : Groups) (label_scores : List ℤ) where
  abbrev values : List ℤ
  values = pooled_values (data_of groups)

  as-many : length (score_list kind values) ≡ length values
  as-many = length-map values (score_of kind values)

  some-subjects : 2 ≤ length (score_list kind values)
  some-subjects = omega (arith, as-many, sizes-whole groups, some_rows groups, sum-some (group_sizes (data_of groups)) (recursion_from_All (λ n. 0 < n) (group_sizes (data_of groups)) (none-empty groups)))

  pub are-scored : length label_scores ≡ length groups.labels → 1 ≤ greatest_score label_scores → greatest_score label_scores < 2 ^ 64 → AreScoredLabels (scored_groups kind label_scores (data_of groups))
  are-scored wide some small = record {
    wide = wide ∙ sym (rows-long groups);
    some_labels = some_rows groups;
    few_labels = few_rows groups;
    long = length-map (tie_groups values) (λ (t : Tie). score_of kind values t.value) ∙ sym (length-map (tie_groups values) (λ (t : Tie). t.count));
    each = counts-some (tie_groups values) (groups-counts values);
    subjects_are = grouped (score_of kind values) values (pooled-rises (data_of groups));
    whole = sizes-whole groups ∙ sym as-many;
    some = some-subjects;
    few = omega (arith, as-many, few_subjects groups);
    observed = observed-labelling groups;
    label_some = some;
    label_small = small;
  }

  -- where the sum of the scores is too wide, so is the bound
  pub scores-refused : (fault : PrepareFault) → 1 ≤ greatest_score label_scores → IsRefusedBy (score_sum kind values) fault → IsRefusedBy (linear_says (scored_groups kind label_scores (data_of groups))).bound fault
  scores-refused (TooWide Total) some is = is
  scores-refused (TooWide Statistic) some is =
      let once : 1 * score_sum kind values ≤ greatest_score label_scores * score_sum kind values = mul-le-mul some (omega arith) in
      let both : 1 * (1 * score_sum kind values) ≤ (2 * length (score_list kind values)) * (greatest_score label_scores * score_sum kind values) = mul-le-mul (omega (arith, some-subjects)) once in
      omega (arith, is, both)
  scores-refused NoMemory some is = tt

-- What holds of groups and of their pooled sample.
use Rattle.std.proofs.Common.{◌≡◌, ℕ, zero, suc, ◌<◌, ◌≤◌, ◌^◌, List, [], ◌∷◌, length, get_or, min, take, refl, sym, ◌∙◌, ap, subst, arith}
use Rattle.std.specs.List.{All, AllByRecursion, Contains, sum}
use Rattle.std.proofs.lemmas.List.{length-map, length-take}
use Rattle.std.proofs.lemmas.List.Elements.{All-from_recursion, recursion_from_All}
use Rattle.std.proofs.lemmas.List.Sums.{sum_by-cons}
use Rattle.weights.specs.Labellings.{counts_of, labellings, labels}
use Rattle.weights.proofs.Counted.{count_of}
use Rattle.weights.proofs.Filters.{map-same, all_weaker}
use Rattle.weights.proofs.Members.{Contains-labellings}
use Rattle.weights.proofs.Sized.{length-counts_of, sum-counts_of}
use Rattle.sample_reader.specs.Data.{data_of}
use Rattle.sample_reader.specs.Groups.{group_sizes}
use Rattle.sample_reader.specs.PooledSample.{labels_of, pooled}
use Rattle.sample_reader.specs.declared.samples.Groups.{Groups}
use Rattle.sample_reader.specs.declared.subjects.Subject.{Subject}
use Rattle.pooled_columns.specs.PooledColumns.{pooled_values}
use Rattle.pooled_columns.proofs.PooledLabels.{pooled-counts, pooled-labels}
use Rattle.pooled_columns.proofs.PooledValues.{length-pooled}

-- no group has more than all
pub at-within : (sizes : List ℕ) (i : ℕ) → get_or sizes i 0 ≤ sum sizes
at-within [] i = omega arith
at-within (n ∷ sizes) zero = omega (arith, sum_by-cons (λ v. v) n sizes)
at-within (n ∷ sizes) (suc i) = omega (arith, at-within sizes i, sum_by-cons (λ v. v) n sizes)

-- the front of eight numbers, which are enough for one of each group
pub room-of : (n : ℕ) → n ≤ 8 → length {A = ℕ} (take n (0 ∷ 0 ∷ 0 ∷ 0 ∷ 0 ∷ 0 ∷ 0 ∷ 0 ∷ [])) ≡ n
room-of n h = length-take n (0 ∷ 0 ∷ 0 ∷ 0 ∷ 0 ∷ 0 ∷ 0 ∷ 0 ∷ []) ∙ within n h
  where
    within : (n : ℕ) → n ≤ 8 → min n 8 ≡ n
    within n h = omega (arith, h)

module _ (groups : Groups) where
  pub rows-long : length (group_sizes (data_of groups)) ≡ length groups.labels
  rows-long = length-counts_of (length groups.labels) groups.members

  pub few_rows : length (group_sizes (data_of groups)) ≤ 8
  few_rows = omega (arith, rows-long, groups.at_most_eight)

  pub some_rows : 2 ≤ length (group_sizes (data_of groups))
  some_rows = omega (arith, rows-long, groups.at_least_two)

  members-below : AllByRecursion (λ m. m < length groups.labels) groups.members
  members-below = recursion_from_All (λ m. m < length groups.labels) groups.members groups.groups_exist

  pub values-long : length (pooled_values (data_of groups)) ≡ length groups.values
  values-long = length-pooled (data_of groups) groups.one_group_each

  pub sizes-whole : sum (group_sizes (data_of groups)) ≡ length (pooled_values (data_of groups))
  sizes-whole = sum-counts_of (length groups.members) (length groups.labels) groups.members (record { long = refl; below = members-below }) ∙ groups.one_group_each ∙ sym values-long

  pub few_subjects : length (pooled_values (data_of groups)) ≤ 10000
  few_subjects = omega (arith, values-long, groups.few_enough)

  pub none-empty : All (λ size. 0 < size) (group_sizes (data_of groups))
  none-empty = λ i d h. omega (arith, subst (All (λ size. 1 ≤ size)) groups.counted groups.none_empty i d h)

  -- the observed labels
  pub labels-counted : counts_of (length (group_sizes (data_of groups))) (labels_of (pooled (data_of groups))) ≡ group_sizes (data_of groups)
  labels-counted =
      ap (λ k. counts_of k (labels_of (pooled (data_of groups)))) rows-long
      ∙ map-same (λ i. count_of i (labels_of (pooled (data_of groups)))) (λ i. count_of i groups.members) (λ i. sym (pooled-counts (data_of groups) groups.one_group_each i)) (labels (length groups.labels))

  pub labels-long : length (labels_of (pooled (data_of groups))) ≡ length (pooled_values (data_of groups))
  labels-long = length-map (pooled (data_of groups)) (λ (s : Subject). s.label) ∙ sym (length-map (pooled (data_of groups)) (λ (s : Subject). s.value))

  pub labels-small : All (λ label. label < 2 ^ 8) (labels_of (pooled (data_of groups)))
  labels-small = All-from_recursion (λ label. label < 2 ^ 8) (labels_of (pooled (data_of groups)))
      (all_weaker (λ label. label < length groups.labels) (λ label. label < 2 ^ 8) (λ label h. omega (arith, h, groups.at_most_eight)) (labels_of (pooled (data_of groups)))
      (pooled-labels (λ label. label < length groups.labels) (data_of groups) groups.one_group_each members-below))

  -- which are a labelling of the sizes
  pub observed-labelling : Contains (labellings (group_sizes (data_of groups))) (labels_of (pooled (data_of groups)))
  observed-labelling = Contains-labellings (group_sizes (data_of groups)) (labels_of (pooled (data_of groups))) (record {
    over = record {
      long = labels-long ∙ sym sizes-whole;
      below = subst (λ k. AllByRecursion (λ label. label < k) (labels_of (pooled (data_of groups)))) (sym rows-long) (pooled-labels (λ label. label < length groups.labels) (data_of groups) groups.one_group_each members-below);
    };
    counted = labels-counted;
  })

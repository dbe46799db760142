-- The samples of groups, and the differences between them.
use Rattle.std.proofs.Common.{◌≡◌, ℕ, ◌*◌, ◌<◌, ◌≤◌, ◌^◌, nat_abs, nat_eq, List, [], ◌∷◌, length, map, refl, sym, ◌∙◌, subst, arith}
use Rattle.std.specs.Prelude.{int_le}
use Rattle.std.specs.List.{All, AllByRecursion, count_by}
use Rattle.std.proofs.Math.Nat.{mul-le-mul}
use Rattle.std.proofs.lemmas.List.{length-map}
use Rattle.std.proofs.lemmas.List.Elements.{All-from_recursion, recursion_from_All}
use Rattle.weights.specs.Labellings.{counts_of}
use Rattle.weights.proofs.OneOrder.{all-in_order, length-in_order}
use Rattle.scores.specs.RawScores.{decimals, raw_score}
use Rattle.sample_reader.specs.Data.{data_of}
use Rattle.sample_reader.specs.declared.samples.Groups.{Groups}
use Rattle.shift_limits.specs.Differences.{differences, differences_between, sample}
use Rattle.shift_limits.proofs.ChosenValues.{labelled-all, labelled-length}
use Rattle.shift_limits.proofs.Pairwise.{between-length, between-range}
use Rattle.scores.proofs.RawLemmas.{decimals-most}
use Rattle.shift_limits.proofs.WholeValues.{raw-in_range}

module _ (groups : Groups) where
  scaled-length : length groups.members ≡ length (map (raw_score (decimals groups.values)) groups.values)
  scaled-length = groups.one_group_each ∙ sym (length-map groups.values (raw_score (decimals groups.values)))

  sample-each : (label : ℕ) → AllByRecursion (λ v. nat_abs v < 10 ^ 36) (sample label (data_of groups))
  sample-each label =
      labelled-all (λ v. nat_abs v < 10 ^ 36) label (map (raw_score (decimals groups.values)) groups.values) groups.members scaled-length
      (raw-in_range (decimals groups.values) groups.values (10 ^ 36) (decimals-most groups.values) (recursion_from_All (λ v. nat_abs v < 10 ^ 36) groups.values groups.in_range))

  pub sample-range : (label : ℕ) → All (λ v. nat_abs v < 10 ^ 36) (sample label (data_of groups))
  sample-range label = All-from_recursion (λ v. nat_abs v < 10 ^ 36) (sample label (data_of groups)) (sample-each label)

  pub sample-length : (label : ℕ) → length (sample label (data_of groups)) ≡ count_by (λ l. nat_eq l label) groups.members
  sample-length label = labelled-length label (map (raw_score (decimals groups.values)) groups.values) groups.members scaled-length

  pub differences-range : All (λ d. nat_abs d < 2 * 10 ^ 36) (differences (data_of groups))
  differences-range = All-from_recursion (λ d. nat_abs d < 2 * 10 ^ 36) (differences (data_of groups))
      (all-in_order int_le (λ d. nat_abs d < 2 * 10 ^ 36) (differences_between (sample 0 (data_of groups)) (sample 1 (data_of groups)))
      (between-range (10 ^ 36) (sample 0 (data_of groups)) (sample 1 (data_of groups)) (sample-each 0) (sample-each 1)))

  pub differences-length : length (differences (data_of groups)) ≡ length (sample 0 (data_of groups)) * length (sample 1 (data_of groups))
  differences-length = length-in_order int_le (differences_between (sample 0 (data_of groups)) (sample 1 (data_of groups))) ∙ between-length (sample 0 (data_of groups)) (sample 1 (data_of groups))

  module _ (two : length groups.labels ≡ 2) where
    sizes-two : (k : ℕ) (members : List ℕ) → k ≡ 2 → counts_of k members ≡ count_by (λ l. nat_eq l 0) members ∷ count_by (λ l. nat_eq l 1) members ∷ []
    sizes-two k members e = rw e refl

    pub sizes-are : groups.sizes ≡ count_by (λ l. nat_eq l 0) groups.members ∷ count_by (λ l. nat_eq l 1) groups.members ∷ []
    sizes-are = groups.counted ∙ sizes-two (length groups.labels) groups.members two

    both-some : AllByRecursion (λ n. 1 ≤ n) (count_by (λ l. nat_eq l 0) groups.members ∷ count_by (λ l. nat_eq l 1) groups.members ∷ [])
    both-some = subst (AllByRecursion (λ n. 1 ≤ n)) sizes-are (recursion_from_All (λ n. 1 ≤ n) groups.sizes groups.none_empty)

    pub differences-some : 1 ≤ length (differences (data_of groups))
    differences-some = omega (arith, differences-length, mul-le-mul both-some.0 both-some.1.0, sample-length 0, sample-length 1, product)
      where
        product : length (sample 0 (data_of groups)) * length (sample 1 (data_of groups)) ≡ count_by (λ l. nat_eq l 0) groups.members * count_by (λ l. nat_eq l 1) groups.members
        product = rw (sample-length 0, sample-length 1) refl

-- The network of a table's weight over sorted rooms follows a test that measures the weight of each labelling's table.
use Rattle.std.proofs.Common.{◌≡◌, ℕ, ◌*◌, ◌≤◌, List, [], ◌∷◌, length, refl, sym, ◌∙◌, ap, subst, arith, one-mul}
use Rattle.std.specs.Prelude.{pos, nat_le}
use Rattle.std.specs.List.{sum, sum_by, Contains}
use Rattle.weights.specs.declared.tails.Tail.{Tail}
use Rattle.weights.specs.Conditional.{ConditionalTest}
use Rattle.weights.specs.Grouped.{columns_of, table_weight}
use Rattle.weights.specs.Labellings.{labellings}
use Rattle.weights.specs.Rules.{measured}
use Rattle.weights.proofs.OneOrder.{length-in_order, sum_by-in_order}
use Rattle.weights.proofs.Sums.{sum_by-same}
use Rattle.completion_bounds.specs.Fillings.{falling, is_at_least}
use Rattle.completion_bounds.proofs.FallingSizes.{falling-twice}
use Rattle.completion_bounds.proofs.TableWeights.{sum-falling}
use Rattle.networks.specs.declared.verdicts.Judge.{Judge}
use Rattle.networks.specs.Follows.{Follows}
use Rattle.networks.specs.Judged.{judge_of}
use Rattle.room_network.specs.Meanings.{way_value}
use Rattle.room_network.specs.Plans.{Gives}
use Rattle.room_network.specs.RoomNetworks.{room_network}
use Rattle.room_network.proofs.RoomFollows.{room_follows}
use Rattle.sorted_tables.specs.SortedRooms.{GivesTables, rising, sorted_plan, sorted_weight}
use Rattle.sorted_tables.proofs.SortedPlans.{sorted_width}
use Rattle.sorted_tables.proofs.SortedWays.{tables_give}
use Rattle.fisher_test.specs.SortedWeighing.{sorted_meaning}
use Rattle.fisher_test.specs.WeightSteps.{IsWeighing}
use Rattle.sorted_tables.proofs.ChoiceSums.{labellings-falling}
use Rattle.fisher_test.proofs.SortedNarrows.{sorted-from, sorted_measure}

module _ (rows columns : List ℕ) (level : sum columns ≡ sum rows) where
  level-sorted : sum (rising columns) ≡ sum (falling rows)
  level-sorted = sum_by-in_order nat_le (λ v. v) columns ∙ level ∙ sym (sum-falling rows)

  -- rows and columns in order are weighed as they stand
  pub weighing-sorted : (judge : Judge) → IsWeighing rows columns judge → IsWeighing (falling rows) (rising columns) judge
  weighing-sorted judge w =
      let long : length (falling rows) ≡ length rows = length-in_order is_at_least rows in
      record {
        some = omega (arith, long, w.some);
        few = omega (arith, long, w.few);
        level = level-sorted;
        units = omega (arith, sum-falling rows, w.units);
        total_fits = omega (arith, labellings-falling rows, w.total_fits);
        rules_fit = w.rules_fit;
      }

  module _ (some : 1 ≤ length rows) (test : ConditionalTest) (tail : Tail) (reference : test.reference ≡ labellings rows) (alike : (xs : List ℕ) → test.weight xs ≡ 1) (values : (xs : List ℕ) → Contains (labellings rows) xs → measured test tail xs ≡ pos (table_weight (columns_of (length rows) columns xs))) where
    tables : GivesTables columns rows
    tables = tables_give columns rows level

    gives : Gives (sorted_plan (rising columns) (falling rows)) test.reference test.weight tables.cut
    gives = record {
      law = λ f.
          tables.gives.law f
          ∙ sum_by-same _ _ (λ xs. ap (λ n. n * f (tables.cut xs)) (sym (alike xs))) (labellings rows)
          ∙ ap (sum_by (λ xs. test.weight xs * f (tables.cut xs))) (sym reference);
    }

    cut-value : (xs : List ℕ) → way_value (sorted_meaning (falling rows) (rising columns) (judge_of test)) (tables.cut xs) ≡ pos (table_weight (columns_of (length rows) columns xs))
    cut-value xs =
        sorted-from (falling rows) (rising columns) (judge_of test) (tables.cut xs) 0 _ (pos 1 ∷ []) refl
        ∙ ap pos (one-mul (table_weight (tables.cut xs)) ∙ tables.weighs xs)

    pub sorted_follows : Follows test tail (room_network (sorted_meaning (falling rows) (rising columns) (judge_of test)) sorted_weight)
    sorted_follows =
        room_follows (sorted_meaning (falling rows) (rising columns) (judge_of test)) sorted_weight (sorted_width (rising columns) (falling rows))
        (sorted_measure (falling rows) (rising columns) (judge_of test) level-sorted (omega (arith, length-in_order is_at_least rows, some)) (falling-twice rows))
        test tail tables.cut (record {
          judge_is = refl;
          gives = gives;
          values = λ xs a. values xs (subst (λ rs. Contains rs xs) reference a) ∙ sym (cut-value xs);
        })

-- Fisher's test of a table by the network of its weight over sorted rooms.
use Rattle.std.proofs.Common.{ℕ, List, ◌≡◌, ◌∙◌, true, false, refl, sym, ap, subst, arith}
use Rattle.std.specs.Prelude.{pos, nat_le, Contains}
use Rattle.weights.specs.declared.tails.Tail.{Tail}
use Rattle.weights.specs.declared.tails.Tail.TheVariants.{Less, Greater, Two}
use Rattle.weights.specs.Grouped.{columns_of, table_weight}
use Rattle.weights.specs.Labellings.{labellings}
use Rattle.weights.proofs.OneOrder.{length-in_order}
use Rattle.completion_bounds.proofs.FallingSizes.{falling-twice}
use Rattle.row_products.proofs.Orders.{rising-twice}
use Rattle.networks.specs.Follows.{Follows, FollowsAlong}
use Rattle.networks.specs.Judged.{judge_of}
use Rattle.table_reader.specs.TableLayout.{TableData}
use Rattle.table_sums.specs.Tables.{column_sums, is_two_by_two, row_sums}
use Rattle.table_sums.specs.TableSteps.{IsTable}
use Rattle.table_sums.proofs.MarginSums.{are-columns, even, few-labels, length-columns, length-rows, some-labels}
use Rattle.fisher_test.specs.FisherExact.{fisher_test, has_fisher_tail}
use Rattle.fisher_test.specs.FisherSteps.{FisherFacts, FisherLabels}
use Rattle.fisher_test.specs.SortedWeighing.{sorted_network}
use Rattle.label_network.specs.LabelNetwork.{over_rooms}
use Rattle.fisher_test.specs.FisherNetworks.{fisher_network, rarity_meaning}
use Rattle.fisher_test.proofs.Built.{is-margin}
use Rattle.fisher_test.proofs.FisherTests.{bounded, first-within, follows, linear-of, observed-few, observed-rarity, rarity-is, rules-fit, shown, total-some, weight-few, weighing}
use Rattle.fisher_test.proofs.SortedFollows.{sorted_follows, weighing-sorted}

module _ (t : TableData) (i : IsTable t) where
  pub follows-sorted : Follows (fisher_test t) Two (sorted_network t)
  follows-sorted =
      sorted_follows (row_sums t) (column_sums t) (even t) (omega (arith, some-labels t i)) (fisher_test t) Two refl (λ xs. refl)
      (λ xs m. ap pos (rarity-is t xs m) ∙ ap (λ k. pos (table_weight (columns_of k (column_sums t) xs))) (sym (length-rows t)))

  -- of a table that is not of 2 by 2 the test has no other tail
  pub along-sorted : is_two_by_two t ≡ false → (tail : Tail) → FollowsAlong (fisher_test t) (fisher_network t) tail (sorted_network t)
  along-sorted large tail Less has same = absurd (cc (subst (λ b. has_fisher_tail b Less ≡ true) large has))
  along-sorted large tail Greater has same = absurd (cc (subst (λ b. has_fisher_tail b Greater ≡ true) large has))
  along-sorted large tail Two has same = follows-sorted

  pub fisher_facts : FisherFacts t
  fisher_facts = record {
    fitting = i;
    few_rows = i.few_rows;
    few = few-labels t i;
    two_rows = some-labels t i;
    two_columns = omega (arith, length-columns t, i.two_columns);
    bounded = bounded t i;
    some = total-some t;
    shown = shown t;
    rules = rules-fit t;
    weighing = weighing t i;
    margin = is-margin t i (over_rooms (rarity_meaning t)) refl refl;
    last = record {
      weighing = weighing-sorted (row_sums t) (column_sums t) (even t) (judge_of (fisher_test t)) (weighing t i);
      ordered = record { falls = falling-twice (row_sums t); rises = rising-twice (column_sums t) };
      two = omega (arith, length-in_order nat_le (column_sums t), length-columns t, i.two_columns);
      rule = refl;
      few = omega (arith, observed-rarity t, observed-few t i);
    };
    linear = linear-of t i;
    follows = follows t i;
    follows_sorted = follows-sorted;
  }

  pub fisher_labels : (xs : List ℕ) → Contains (labellings (row_sums t)) xs → FisherLabels t xs
  fisher_labels xs m = record { columns = are-columns t i xs m; first = first-within t i xs m; few = weight-few t i xs m; rarity = rarity-is t xs m }

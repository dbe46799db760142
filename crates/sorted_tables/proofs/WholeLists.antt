-- All choices of a column that stand for others are those that fit behind no row.
use Rattle.std.proofs.Common.{◌≡◌, ℕ, ◌+◌, ◌*◌, ◌^◌, ◌<◌, ◌≤◌, List, length, map, true, refl, sym, ◌∙◌, ap, subst, arith, one-mul}
use Rattle.std.specs.List.{filter, sum}
use Rattle.std.proofs.Math.Nat.{pow-le-pow_right}
use Rattle.weights.specs.declared.lines.Line.{Line}
use Rattle.weights.specs.declared.TheConstants.{MAX}
use Rattle.weights.specs.Grouped.{choices, minus}
use Rattle.weights.specs.Labellings.{number_of_labellings}
use Rattle.weights.proofs.ChoiceLists.{IsChoice, choices-each}
use Rattle.weights.proofs.Filters.{map-same_where, filter-same_where}
use Rattle.completion_bounds.proofs.TableWeights.{labellings-parts, within}
use Rattle.label_network.specs.LabelSteps.{IsHeld}
use Rattle.label_network.proofs.Narrowing.{chosen}
use Rattle.sorted_tables.specs.ChoiceLines.{choice_line, choice_lines}
use Rattle.sorted_tables.specs.GatheredChoices.{gathered_weight, is_gathered}
use Rattle.sorted_tables.specs.FrontSteps.{IsFront, front_line, front_lines, split_ways}
use Rattle.sorted_tables.specs.SortedSteps.{fits_behind, gathered_count, row_orders}
use Rattle.sorted_tables.specs.declared.fronts.Front.{Front}
use Rattle.sorted_tables.proofs.ChoiceSums.{StandsFor, line-fits, stand-for}
use Rattle.sorted_tables.proofs.GatheredForms.{risen-gathered}
use Rattle.sorted_tables.proofs.GatheredSums.{weight-gathered}
use Rattle.sorted_tables.proofs.RisingChoices.{none-behind}
use Rattle.sorted_tables.proofs.RowOrders.{counted-by-orders}

-- no row is given yet
abbrev pub no_rows : ℕ → ℕ → Front
no_rows column others = record { size = 0; count = 0; alike = 0; orders = 1; column = column; others = others; ways = 1 }

module _ (column others : ℕ) (r : List ℕ) where
  weight-is : (x : List ℕ) → StandsFor column r x → (1 * split_ways r x) * gathered_count r x ≡ gathered_weight r x * number_of_labellings (minus r x)
  weight-is x o =
      turned (number_of_labellings x) (number_of_labellings (minus r x)) (gathered_count r x)
      ∙ ap (λ n. n * number_of_labellings (minus r x)) (sym (weight-gathered (sum x) r x))
    where
      turned : (a b n : ℕ) → (1 * (a * b)) * n ≡ (n * a) * b
      turned a b n = grind arith

  pub line-is : (x : List ℕ) → StandsFor column r x → front_line (row_orders r) (no_rows column others) r x ≡ choice_line r x
  line-is x o =
      rw (counted-by-orders column r x o.choice (risen-gathered r x o.choice.long o.stands), weight-is x o, one-mul (split_ways r x)) refl

  behind-is : (x : List ℕ) → IsChoice column r x → fits_behind 0 0 r x ≡ is_gathered r x
  behind-is x o = none-behind r x o.long

  pub whole-lines : front_lines (row_orders r) (no_rows column others) r ≡ choice_lines column r
  whole-lines =
      ap (map (front_line (row_orders r) (no_rows column others) r)) (filter-same_where (IsChoice column r) (fits_behind 0 0 r) (is_gathered r) behind-is (choices column r) (choices-each column r))
      ∙ map-same_where (StandsFor column r) _ (choice_line r) line-is (filter (is_gathered r) (choices column r)) (stand-for column r (choices column r) (choices-each column r))

  pub whole-front : (width : ℕ) → length r ≤ 8 → sum r < 2 ^ 64 → IsHeld width r → number_of_labellings r ≤ MAX → column + others ≡ sum r → IsFront width (row_orders r) r (no_rows column others)
  whole-front width few small held fits level = record {
    few = omega (arith, few);
    few_orders = omega (arith, pow-le-pow_right {n = 8} (omega arith) {i = length r} {j = 8} few);
    some_orders = omega arith;
    some = omega arith;
    level = level;
    small = small;
    held = held;
    least = omega arith;
    enough = omega arith;
    fits = λ x e. omega (arith, labellings-parts r x (within column r x (chosen column r x e)), fits);
    line_fits = λ x e f.
        (let o : IsChoice column r x = chosen column r x e in
        let stands : is_gathered r x ≡ true = sym (behind-is x o) ∙ f in
        subst (λ (l : Line). l.weight ≤ MAX) (sym (line-is x (record { choice = o; stands = stands }))) (omega (arith, line-fits column r (omega (arith, level)) x e stands, fits)));
  }

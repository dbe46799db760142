-- The weight of a table, column by column, and an interval of what it can come to (Mehta and Patel,
-- JASA 78, 1983): the product of the columns' weights so far, times least and greatest weights of
-- the later columns.
use Rattle.std.specs.Prelude.{ℕ, pos, List, drop, length, min}
use Rattle.networks.specs.declared.verdicts.Judge.{Judge}
use Rattle.weights.specs.Labellings.{number_of_labellings}
use Rattle.completion_bounds.specs.Fillings.{greatest_weight, least_weight, product_by}
use Rattle.room_network.specs.Numbers.{Numbers}
use Rattle.room_network.specs.declared.numbers.Operation.TheVariants.{Product}
use Rattle.label_network.specs.Meanings.{Meaning, number_over_columns}

-- by what the later columns multiply it, at least: each fills the greatest remaining rows first
abbrev pub least_factor : List ℕ → ℕ → List ℕ → ℕ
least_factor columns g r = product_by (least_weight r) (drop g columns)

-- and at most: each is divided evenly over the rows, or there are no more labellings left
abbrev pub greatest_factor : List ℕ → ℕ → List ℕ → ℕ
greatest_factor columns g r =
    min (number_of_labellings r) (product_by (greatest_weight (length r)) (drop g columns))

-- the weight of tables with these rows and columns
abbrev pub weight_numbers : List ℕ → Judge → Numbers (List ℕ)
weight_numbers columns judge = record {
  operation = Product;
  step = λ g r x. pos (number_of_labellings x);
  least = λ g r. pos (least_factor columns g r);
  greatest = λ g r. pos (greatest_factor columns g r);
  judge = judge;
}

abbrev pub weight_meaning : List ℕ → List ℕ → Judge → Meaning
weight_meaning rows columns judge = number_over_columns columns rows (weight_numbers columns judge)

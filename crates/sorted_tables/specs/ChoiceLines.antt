-- Choices before the last column, each with what it leaves: the tables that complete a room whose
-- sizes two columns have left. A line has the table's weight, the product of both columns' numbers
-- of labellings, and in how many ways all choices that one stands for lead to it.
use Rattle.std.specs.Prelude.{ℕ, ◌*◌, pos, List, map, filter}
use Rattle.weights.specs.declared.lines.Line.{Line}
use Rattle.weights.specs.Grouped.{choices, minus}
use Rattle.weights.specs.Labellings.{number_of_labellings}
use Rattle.sorted_tables.specs.GatheredChoices.{gathered_weight, is_gathered}

-- a choice with what it leaves of the sizes
abbrev pub choice_line : List ℕ → List ℕ → Line
choice_line sizes x = record {
  value = pos (number_of_labellings x * number_of_labellings (minus sizes x));
  weight = gathered_weight sizes x * number_of_labellings (minus sizes x);
}

-- those of a column, in the order of the choices
abbrev pub choice_lines : ℕ → List ℕ → List Line
choice_lines column sizes =
    map (choice_line sizes) (filter (is_gathered sizes) (choices column sizes))

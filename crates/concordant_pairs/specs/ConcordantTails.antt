-- Values that rise evenly with the number of concordant pairs.
use Rattle.std.specs.Prelude.{ℕ, ℤ, pos, ◌+ℤ◌, ◌*◌, List}
use Rattle.std.specs.List.{Contains, count_by}
use Rattle.weights.specs.Labellings.{labellings}
use Rattle.weights.specs.Rules.{passes}
use Rattle.weights.specs.declared.rules.Rule.{Rule}
use Rattle.networks.specs.declared.verdicts.Judge.{Judge}
use Rattle.networks.specs.Judged.{JudgeFits}
use Rattle.concordant_pairs.specs.ConcordantPairs.{concordant_pairs}

-- from a base on, a step for each pair
abbrev pub even_value : ℤ → ℕ → ℕ → ℤ
even_value base step pairs = base +ℤ pos (step * pairs)

-- how many labellings have a value that passes a rule
abbrev pub passing_labellings : Rule → ℤ → ℕ → List ℕ → ℕ
passing_labellings rule base step sizes =
    count_by (λ xs. passes rule (even_value base step (concordant_pairs xs))) (labellings sizes)

-- the rules fit the value of each labelling
abbrev pub FitLabellings : Judge → ℤ → ℕ → List ℕ → Type 0
FitLabellings judge base step sizes = (xs : List ℕ)
    → Contains (labellings sizes) xs → JudgeFits judge (even_value base step (concordant_pairs xs))

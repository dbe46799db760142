-- Labellings of several lists of counts, put together.
use Rattle.std.specs.Prelude.{ℕ, List, map}
use Rattle.std.specs.List.{concat}
use Rattle.weights.specs.Labellings.{labellings, product}

-- each labelling of the first counts, followed by each of the next
abbrev pub joined_labellings : List (List ℕ) → List (List ℕ)
joined_labellings parts = map concat (product (map labellings parts))

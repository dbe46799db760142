-- Choices that differ in the order of rows of equal size alone lead on alike. They are gathered
-- into one: the first of them, which gives rows of equal size their counts in rising order.
use Rattle.std.specs.Prelude.{ℕ, List, [], ◌∷◌, Bool, ◌&&◌, nat_eq, nat_lt, if◌then◌else◌}
use Rattle.std.specs.List.{filter, sum, sum_by}
use Rattle.std.specs.Cmp.Lexicographic.{pointwise}
use Rattle.weights.specs.Grouped.{choices}
use Rattle.weights.specs.Labellings.{number_of_labellings}

-- whether a row has the size of another one and gets less
abbrev pub gets_less : ℕ → ℕ → ℕ → ℕ → Bool
gets_less size count other_size other_count = nat_eq size other_size && nat_lt count other_count

-- a row's count put among those of the rows after it: behind those of its size that get less
abbrev pub put_among : ℕ → ℕ → List ℕ → List ℕ → List ℕ
put_among size count [] counts = count ∷ counts
put_among size count (row ∷ rows) [] = count ∷ []
put_among size count (row ∷ rows) (other ∷ counts) =
    if gets_less row other size count then other ∷ put_among size count rows counts
    else count ∷ other ∷ counts

-- a choice with the counts of neighbouring rows of equal size in rising order
abbrev pub gathered : List ℕ → List ℕ → List ℕ
gathered [] counts = counts
gathered (row ∷ rows) [] = []
gathered (row ∷ rows) (count ∷ counts) = put_among row count rows (gathered rows counts)

-- whether a choice is gathered into another one
abbrev pub is_gathered_into : List ℕ → List ℕ → List ℕ → Bool
is_gathered_into rows into choice = pointwise nat_eq (gathered rows choice) into

-- whether it stands for all that are gathered into it
abbrev pub is_gathered : List ℕ → List ℕ → Bool
is_gathered rows choice = is_gathered_into rows choice choice

-- how many labellings all choices have that are gathered into one
abbrev pub gathered_weight : List ℕ → List ℕ → ℕ
gathered_weight rows into =
    sum_by number_of_labellings (filter (is_gathered_into rows into) (choices (sum into) rows))

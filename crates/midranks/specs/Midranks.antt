-- Average ranks at ties, doubled so that they are whole (Hollander and Wolfe, Nonparametric
-- Statistical Methods).
use Rattle.std.specs.Prelude.{ℕ, ℤ, ◌+◌, ◌*◌, List, map, int_lt}
use Rattle.std.specs.List.{count_by}
use Rattle.std.specs.Ordering.{int_eq}

-- how many values are less than this one, and how many equal it
unfoldable pub number_below : List ℤ → ℤ → ℕ
number_below values v = count_by (λ w. int_lt w v) values

unfoldable pub number_equal : List ℤ → ℤ → ℕ
number_equal values v = count_by (λ w. int_eq w v) values

-- twice the number of lesser values, plus the number of equal ones, plus 1
unfoldable pub doubled_midrank : List ℤ → ℤ → ℕ
doubled_midrank values v = 2 * number_below values v + number_equal values v + 1

-- the doubled midranks of some of the values among all
unfoldable pub midranks_among : List ℤ → List ℤ → List ℕ
midranks_among values some = map (doubled_midrank values) some

-- the doubled midrank of each value
abbrev pub doubled_midranks : List ℤ → List ℕ
doubled_midranks values = midranks_among values values

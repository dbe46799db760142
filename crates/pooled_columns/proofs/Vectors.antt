-- Columns worked by hand.
use Rattle.std.specs.Prelude.{◌≡◌, pos, [], ◌∷◌}
use Rattle.std.proofs.Common.{refl}
use Rattle.midranks.specs.Ties.{tie_groups}
use Rattle.pooled_columns.specs.PooledColumns.{column_sizes}

-- values with one tie
one_tie : column_sizes (pos 3 ∷ pos 5 ∷ pos 5 ∷ pos 8 ∷ []) ≡ 1 ∷ 2 ∷ 1 ∷ []
unfolding tie_groups
one_tie = refl

-- scores that are equal join no columns
two_columns : column_sizes (pos 1 ∷ pos 1 ∷ pos 2 ∷ pos 2 ∷ []) ≡ 2 ∷ 2 ∷ []
unfolding tie_groups
two_columns = refl

all_tied : column_sizes (pos 4 ∷ pos 4 ∷ pos 4 ∷ []) ≡ 3 ∷ []
unfolding tie_groups
all_tied = refl

no_values : column_sizes [] ≡ []
unfolding tie_groups
no_values = refl

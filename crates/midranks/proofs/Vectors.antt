-- Worked values of the definitions, by computation.
use Rattle.std.specs.Prelude.{◌≡◌, ℤ, pos, negsuc, List, [], ◌∷◌}
use Rattle.std.proofs.Common.{refl}
use Rattle.midranks.specs.Midranks.{doubled_midrank, doubled_midranks, midranks_among, number_below, number_equal}
use Rattle.midranks.specs.Ties.{tie_groups}
use Rattle.midranks.specs.declared.TheConstants.{MOST_VALUES}

most_values : MOST_VALUES ≡ 10000
most_values = refl

abbrev six : List ℤ
six = pos 1 ∷ pos 2 ∷ pos 2 ∷ pos 2 ∷ pos 3 ∷ pos 3 ∷ []

six_ranks : doubled_midranks six ≡ 2 ∷ 6 ∷ 6 ∷ 6 ∷ 11 ∷ 11 ∷ []
unfolding doubled_midrank midranks_among number_below number_equal
six_ranks = refl

six_groups : tie_groups six ≡ record { value = pos 1; count = 1 } ∷ record { value = pos 2; count = 3 } ∷ record { value = pos 3; count = 2 } ∷ []
unfolding tie_groups
six_groups = refl

-- in any order, and below zero
abbrev mixed : List ℤ
mixed = pos 4 ∷ negsuc 0 ∷ pos 4 ∷ negsuc 6 ∷ []

mixed_ranks : doubled_midranks mixed ≡ 7 ∷ 4 ∷ 7 ∷ 2 ∷ []
unfolding doubled_midrank midranks_among number_below number_equal
mixed_ranks = refl

mixed_groups : tie_groups mixed ≡ record { value = negsuc 6; count = 1 } ∷ record { value = negsuc 0; count = 1 } ∷ record { value = pos 4; count = 2 } ∷ []
unfolding tie_groups
mixed_groups = refl

no_groups : tie_groups [] ≡ []
unfolding tie_groups
no_groups = refl

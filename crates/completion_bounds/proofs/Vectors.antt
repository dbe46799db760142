-- Worked values of the definitions.
use Rattle.std.specs.Prelude.{◌≡◌, ℤ, pos, negsuc, List, [], ◌∷◌, reverse}
use Rattle.std.proofs.Common.{refl}
use Rattle.completion_bounds.specs.Boxes.{least_size, greatest_size, least_squares, greatest_squares, factored_squares}
use Rattle.completion_bounds.specs.Fillings.{falling, filled_in_turn, evenly_divided, least_bound, greatest_bound}
use Rattle.completion_bounds.specs.Pairings.{row_units, later_units, paired, pairing_size}
use Rattle.completion_bounds.specs.declared.pairings.Part.{Part}
use Rattle.completion_bounds.specs.declared.pairings.Later.{Later}

-- three units of score 0 and three of score 1
abbrev rows : List Part
rows = record { score = pos 0; count = 3 } ∷ record { score = pos 1; count = 3 } ∷ []

abbrev column : ℤ → Later
column score = record { score = score; count = 1; stage = 0 }

abbrev columns : List Later
columns = column (pos 2) ∷ column (pos 4) ∷ column (pos 6) ∷ column (pos 8) ∷ column (pos 10) ∷ column (pos 12) ∷ []

least_of_six : paired (row_units rows) (reverse (later_units 0 columns)) ≡ pos 12
least_of_six = refl

greatest_of_six : paired (row_units rows) (later_units 0 columns) ≡ pos 30
greatest_of_six = refl

size_of_six : pairing_size (row_units rows) (later_units 0 columns) ≡ 72
size_of_six = refl

passed_over : later_units 1 columns ≡ []
passed_over = refl

-- a range that holds 0, and one below 0
nearest_to_zero : least_size (negsuc 2) (pos 5) ≡ 0
nearest_to_zero = refl

below_zero : least_size (negsuc 4) (negsuc 2) ≡ 3
below_zero = refl

farthest_from_zero : greatest_size (negsuc 6) (pos 5) ≡ 7
farthest_from_zero = refl

abbrev lows : List ℤ
lows = pos 4 ∷ pos 4 ∷ pos 4 ∷ []

abbrev highs : List ℤ
highs = pos 12 ∷ pos 12 ∷ pos 12 ∷ []

least_of_box : least_squares lows highs (1 ∷ 1 ∷ 1 ∷ []) ≡ 48
least_of_box = refl

greatest_of_box : greatest_squares lows highs (1 ∷ 1 ∷ 1 ∷ []) ≡ 432
greatest_of_box = refl

point_of_box : factored_squares (pos 2 ∷ negsuc 2 ∷ []) (5 ∷ 7 ∷ []) ≡ 83
point_of_box = refl

greatest_first : falling (1 ∷ 3 ∷ 2 ∷ 3 ∷ []) ≡ 3 ∷ 3 ∷ 2 ∷ 1 ∷ []
greatest_first = refl

five_in_turn : filled_in_turn 5 (3 ∷ 2 ∷ 1 ∷ []) ≡ 3 ∷ 2 ∷ 0 ∷ []
five_in_turn = refl

seven_over_three : evenly_divided 7 3 ≡ 3 ∷ 2 ∷ 2 ∷ []
seven_over_three = refl

least_of_two_columns : least_bound 1 (4 ∷ 4 ∷ []) (4 ∷ 4 ∷ []) ≡ 1
least_of_two_columns = refl

greatest_of_two_columns : greatest_bound 1 (4 ∷ 4 ∷ []) (4 ∷ 4 ∷ []) ≡ 36
greatest_of_two_columns = refl

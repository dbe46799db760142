-- Strata of a file, whose cells pass no limit.
use Rattle.std.specs.Prelude.{ℕ, ◌≤◌, List, All}
use Rattle.weights.specs.Labellings.{number_of_labellings}
use Rattle.strata_cells.specs.declared.stratum.Stratum.{Stratum}
use Rattle.strata_cells.specs.Strata.{row_counts}

-- no cell passes the greatest count of a file
abbrev pub IsSmall : Stratum → Type 0
IsSmall s = (s.a ≤ 1000000) × (s.b ≤ 1000000) × (s.c ≤ 1000000) × (s.d ≤ 1000000)

abbrev pub AreSmall : List Stratum → Type 0
AreSmall strata = All IsSmall strata

-- how many labellings a stratum has
abbrev pub labelled : Stratum → ℕ
labelled s = number_of_labellings (row_counts s)

-- Words for what is made of the strata of samples, and kept of a prepared test.
use Rattle.std.specs.Prelude.{ℕ, ◌+◌, ◌-◌, ◌*◌, ◌≤◌, List, [], ◌∷◌, length}
use Rattle.std.specs.List.{All}
use Rattle.weights.specs.Labellings.{number_of_labellings}
use Rattle.sample_reader.specs.declared.subjects.Subject.{Subject}
use Rattle.stratified_ranks.specs.StratifiedRanks.{second_size}
use Rattle.stratified_ranks.specs.declared.rank_strata.Part.{Part}

abbrev pub part_of : List Subject → Part
part_of stratum = record { subjects = length stratum; second = second_size stratum }

-- how many of its subjects are of each group
abbrev pub part_sizes : Part → List ℕ
part_sizes part = (part.subjects - part.second) ∷ part.second ∷ []

abbrev pub part_ways : Part → ℕ
part_ways part = number_of_labellings (part_sizes part)

abbrev pub parts_total : List Part → ℕ
parts_total [] = 1
parts_total (p ∷ parts) = part_ways p * parts_total parts

abbrev pub part_centre : Part → ℕ
part_centre part = part.second * (part.subjects + 1)

-- no more subjects of the second group than subjects
pub record ArePartsSound (parts : List Part) : Type 0 where
  pub each : All (λ part. part.second ≤ part.subjects) parts

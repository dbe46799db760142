-- Scores that never fall from row to row.
use Rattle.std.specs.Prelude.{ℤ, ◌≤ℤ◌, List, [], ◌∷◌}

-- no score is below the one before it
abbrev pub Climbs : ℤ → List ℤ → Type 0
Climbs u [] = Unit {0}
Climbs u (w ∷ us) = (u ≤ℤ w) × Climbs w us

abbrev pub RowsClimb : List ℤ → Type 0
RowsClimb [] = Unit {0}
RowsClimb (u ∷ us) = Climbs u us

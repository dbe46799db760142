-- Scores that a place has by itself.
use Rattle.std.specs.Prelude.{ℕ}
use Rattle.scores.specs.PlaceScores.{ansari_place, median_place, mood_place}
use Rattle.scores.specs.declared.places.PlaceKind.{PlaceKind}
use Rattle.scores.specs.declared.places.PlaceKind.TheVariants.{Ansari, Mood, Median}

abbrev pub place_score : PlaceKind → ℕ → ℕ → ℕ
place_score Ansari n p = ansari_place n p
place_score Mood n p = mood_place n p
place_score Median n p = median_place n p

-- how many times as fine as the tie sizes ask for the scale is
abbrev pub unit_of : PlaceKind → ℕ
unit_of Ansari = 1
unit_of Mood = 4
unit_of Median = 1

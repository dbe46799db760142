use Rattle.std.proofs.Common.{◌≡◌, ◌*◌, ℕ, Bool, true, false, cond, refl, ap, ◌∙◌}
use mir.Val.{bool_byte}
use Rattle.scores.specs.PlaceScores.{ansari_place, median_place, mood_place}
use Rattle.scores.proofs.places.score_at.Goals as goal

-- a truth value as a number
byte : (b : Bool) → bool_byte b ≡ cond {A = ℕ} b 1 0
byte true = refl
byte false = refl

pub returns-in-Ansari : goal.returns-in-Ansari
unfolding ansari_place
returns-in-Ansari c = rw c.in-Ansari.is c.min.ensures

pub returns-in-Mood : goal.returns-in-Mood
unfolding mood_place
returns-in-Mood c = rw c.in-Mood.is (ap (λ d. d * d) c.abs_diff-distance.ensures)

pub returns-in-Median : goal.returns-in-Median
unfolding median_place
returns-in-Median c = rw c.in-Median.is (c.from.ensures ∙ byte _)

use Rattle.std.proofs.Common.{◌≡◌}
use Rattle.scores.specs.PlaceScores.{place_scores, savage_place}
use Rattle.scores.proofs.places.savage_places.Given as goal

abbrev pub invariant-loop-before : goal.invariant-loop-before
invariant-loop-before l = record {
  score : l.score ≡ savage_place l.n l.before;
  places : l.places ≡ place_scores (savage_place l.n) l.before;
}

use Rattle.std.proofs.Common.{◌≡◌}
use Rattle.scores.specs.PlaceScores.{place_scores}
use Rattle.scores.specs.PlaceSteps.{place_score}
use Rattle.scores.proofs.places.places.Given as goal

abbrev pub invariant-loop-before : goal.invariant-loop-before
invariant-loop-before l = l.places ≡ place_scores (place_score l.kind l.n) l.before

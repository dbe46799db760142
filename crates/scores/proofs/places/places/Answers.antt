use Rattle.std.proofs.Common.{◌∙◌, sym}
use Rattle.scores.specs.PlaceSteps.{place_score}
use Rattle.scores.proofs.PlaceSums.{places-more, places-none}
use Rattle.scores.proofs.places.places.Goals as goal

pub loop-before-init : goal.loop-before-init
loop-before-init c = c.empty-places.ensures ∙ sym (places-none (place_score c.args.kind c.args.n))

pub loop-before-preserved : goal.loop-before-preserved
loop-before-preserved c =
    rw (c.in_ok-push.ensures.ok, c.loop-before.invariant, c.score_at.ensures) (sym (places-more (place_score c.args.kind c.args.n) c.loop-before.before))

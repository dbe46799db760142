use Rattle.std.proofs.Common.{◌≡◌, ◌+◌, ◌-◌, ◌/◌, ◌∙◌, sym, ap, arith}
use Rattle.scores.specs.PlaceScores.{savage_place}
use Rattle.scores.proofs.PlaceSums.{places-more, places-none, savage-more, savage-none, savage-place_within}
use Rattle.scores.proofs.places.savage_places.Goals as goal

pub loop-before-init : goal.loop-before-init
loop-before-init c = record {
  score = sym (savage-none c.args.n);
  places = c.empty-places.ensures ∙ sym (places-none (savage_place c.args.n));
}

pub returns-in_err-score-clause-too_wide : goal.returns-in_err-score-clause-too_wide
returns-in_err-score-clause-too_wide c = λ _.
    let none = rw c.in_err-score.ensures.ok_part at c.bounded_sum.ensures in
    let step = savage-more c.args.n c.loop-before.before c.loop-before-test.true in
    let quotient = ap (λ m. m / (c.args.n - c.loop-before.before)) c.requires in
    let within = savage-place_within c.args.n c.loop-before.before c.loop-before-test.true in
    omega (arith, none, step, quotient, within, c.loop-before.invariant.score)

pub loop-before-preserved : goal.loop-before-preserved
loop-before-preserved c =
    let some = rw c.in_ok-score.ensures.ok_part at c.bounded_sum.ensures in
    let step = savage-more c.args.n c.loop-before.before c.loop-before-test.true in
    let quotient = ap (λ m. m / (c.args.n - c.loop-before.before)) c.requires in
    let score : c.in_ok-score.score ≡ savage_place c.args.n (c.loop-before.before + 1) = omega (arith, some.1, step, quotient, c.loop-before.invariant.score) in
    record {
      score = score;
      places = rw (c.in_ok-push.ensures.ok, c.loop-before.invariant.places, score) (sym (places-more (savage_place c.args.n) c.loop-before.before));
    }

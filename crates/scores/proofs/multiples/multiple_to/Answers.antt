use Rattle.std.proofs.Common.{◌+◌, ◌∙◌, sym, ap, refl, arith}
use Rattle.weights.specs.Numbers.{lcm}
use Rattle.scores.specs.PlaceScores.{common_multiple}
use Rattle.scores.proofs.MultipleLemmas.{multiple_to-fits, multiple_to-more, multiple_to-whole}
use Rattle.scores.proofs.multiples.multiple_to.Goals as goal

pub loop-i-init : goal.loop-i-init
unfolding common_multiple
loop-i-init c = record { multiple = refl; fits = omega arith }

pub returns-in_err-multiple : goal.returns-in_err-multiple
returns-in_err-multiple c =
    rw c.from_residual.ensures (λ fits. c.in_err-multiple.ensures (rw c.loop-i.invariant.multiple (multiple_to-fits c.args.n c.loop-i.i _ c.loop-i-test.true fits)))

pub loop-i-preserved : goal.loop-i-preserved
loop-i-preserved c =
    let told = c.in_ok-multiple.ensures in
    record {
      multiple = told.1 ∙ ap (λ m. lcm m (c.loop-i.i + 1)) c.loop-i.invariant.multiple ∙ sym (multiple_to-more c.args.n c.loop-i.i c.loop-i-test.true);
      fits = rw told.1 told.0;
    }

pub returns : goal.returns
returns c =
    let e = c.loop-i.invariant.multiple ∙ multiple_to-whole c.args.n c.loop-i.i c.loop-i-test.false in
    (rw (← e) c.loop-i.invariant.fits, e)

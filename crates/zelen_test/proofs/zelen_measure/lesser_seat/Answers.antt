use Rattle.zelen_test.proofs.LesserWeights.{lesser-seat}
use Rattle.zelen_test.proofs.zelen_measure.lesser_seat.Goals as goal

pub returns : goal.returns
returns c =
    let r = c.args._counts.now in
    rw c.requires.same (lesser-seat r.strata r.sum r.right.summed r.right.fits c.args._done (rw c.requires.same at c.requires.before))

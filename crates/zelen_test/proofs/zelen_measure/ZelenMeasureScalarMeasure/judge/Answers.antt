use Rattle.zelen_test.proofs.ZelenPlans.{zelen_number}
use Rattle.zelen_test.proofs.zelen_measure.ZelenMeasureScalarMeasure.judge.Goals as goal

pub returns-clause-sound : goal.returns-clause-sound
returns-clause-sound c =
    let s = c.args.self.now.counts in
    zelen_number s.strata s.sum s.right.summed.can c.args.self.now.judge s.right.fits c.args.self.now.right.rules_fit

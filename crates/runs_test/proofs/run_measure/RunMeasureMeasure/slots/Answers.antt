use Rattle.label_network.proofs.OverRooms.{over_measure}
use Rattle.runs_test.specs.RunNetwork.{runs_meaning}
use Rattle.runs_test.proofs.RunNarrows.{runs_measure}
use Rattle.runs_test.proofs.run_measure.RunMeasureMeasure.slots.Goals as goal

pub returns-clause-sound : goal.returns-clause-sound
returns-clause-sound c =
    let m = c.args.self.now in
    over_measure (runs_meaning m.first m.second m.judge) (runs_measure m.first m.second m.judge)

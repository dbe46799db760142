use Rattle.label_network.proofs.IntervalMeasures.{interval_measure}
use Rattle.label_network.proofs.by_intervals.ByIntervalsMeasure.slots.Goals as goal

pub returns-clause-sound : goal.returns-clause-sound
returns-clause-sound g c =
    rw (← c.self.view_is) (interval_measure _ _ (g.M.Measure.meaning c.self.inside.measure) c.self.invariant c.slots.ensures.sound)

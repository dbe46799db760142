use Rattle.label_network.proofs.IntervalMeasures.{room_end}
use Rattle.label_network.proofs.by_intervals.ByIntervalsMeasure.value.Goals as goal

pub value-requires : goal.value-requires
value-requires g c =
    room_end _ _ (g.M.Measure.meaning c.self.inside.measure) c.self.invariant c.args.partial.now (rw (← c.self.view_is) at c.requires)

use Rattle.label_network.proofs.IntervalMeasures.{room_reached}
use Rattle.label_network.proofs.by_intervals.ByIntervalsMeasure.verdict.Goals as goal

pub verdict-requires : goal.verdict-requires
verdict-requires g c =
    room_reached _ _ (g.M.Measure.meaning c.self.inside.measure) c.self.invariant c.args.stage c.args.remaining.now c.args.partial.now (rw (← c.self.view_is) at c.requires)

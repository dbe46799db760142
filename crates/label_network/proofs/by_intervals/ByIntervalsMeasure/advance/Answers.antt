use Rattle.label_network.proofs.IntervalMeasures.{room_move}
use Rattle.label_network.proofs.by_intervals.ByIntervalsMeasure.advance.Goals as goal

pub advance-requires-clause-allowed : goal.advance-requires-clause-allowed
advance-requires-clause-allowed g c =
    room_move _ _ (g.M.Measure.meaning c.self.inside.measure) c.self.invariant c.args.stage c.args.remaining.now c.args.partial.now c.args.choice.now
    (rw (← c.self.view_is) at c.requires.before) (rw (← c.self.view_is) at c.requires.reached) (rw (← c.self.view_is) at c.requires.allowed)

use Rattle.labelled.proofs.problem.UnweightedPrepared.sum_onward.Goals as goal

pub sum_onward-requires-clause-judge : goal.sum_onward-requires-clause-judge
sum_onward-requires-clause-judge g c = c.of-judge.ensures (g.T.UnweightedTest.test c.self.inside.test) c.self.invariant

pub sum_onward-requires-clause-starts : goal.sum_onward-requires-clause-starts
sum_onward-requires-clause-starts g c = rw c.self.view_is c.requires.starts

pub returns : goal.returns
returns g c = rw (← c.self.view_is) c.sum_onward.ensures

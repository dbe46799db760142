use Rattle.labelled.proofs.problem.UnweightedPrepared.numerators.Goals as goal

pub numerators-requires-clause-judge : goal.numerators-requires-clause-judge
numerators-requires-clause-judge g c = c.of.ensures (g.T.UnweightedTest.test c.self.inside.test) c.self.invariant

pub numerators-requires-clause-tails : goal.numerators-requires-clause-tails
numerators-requires-clause-tails g c = rw c.self.view_is c.requires

pub returns : goal.returns
returns g c = rw (← c.self.view_is) c.numerators.ensures

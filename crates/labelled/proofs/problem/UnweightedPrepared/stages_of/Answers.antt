use Rattle.labelled.proofs.problem.UnweightedPrepared.stages_of.Goals as goal

pub stages_of-requires : goal.stages_of-requires
stages_of-requires g c = c.of.ensures (g.T.UnweightedTest.test c.self.inside.test) c.self.invariant

pub returns-clause-follows : goal.returns-clause-follows
returns-clause-follows g c t has = rw (← c.self.view_is) (c.sound.ensures.follows t)

pub returns-clause-written : goal.returns-clause-written
returns-clause-written g c t has = rw (← c.self.view_is) (c.sound.ensures.written t)

use Rattle.labelled.proofs.problem.UnweightedPlain.first.Goals as goal

pub returns-clause-first : goal.returns-clause-first
returns-clause-first g c = rw (← c.self.view_is) c.first.ensures

pub returns-clause-bounded : goal.returns-clause-bounded
returns-clause-bounded g c = rw (← c.self.view_is) c.sound.ensures.total_fits

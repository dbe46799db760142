use Rattle.labelled.proofs.problem.UnweightedFramed.frame.Goals as goal

pub returns-clause-fits : goal.returns-clause-fits
returns-clause-fits g c = rw (← c.self.view_is) c.sound.ensures.rules_fit

pub returns-clause-some : goal.returns-clause-some
returns-clause-some g c = rw (← c.self.view_is) c.sound.ensures.some

use Rattle.stage_network.specs.SweepSteps.{first_course}
use Rattle.stage_network.proofs.sweeps_to.sweep_to.Given as goal

abbrev pub ghost-advance_to : goal.ghost-advance_to
ghost-advance_to g a = first_course (g.S.Stages.network a.stages.now) a.self.now.keep

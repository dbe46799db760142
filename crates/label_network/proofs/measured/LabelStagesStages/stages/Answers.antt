use Rattle.label_network.proofs.MeasuredNetworks.{measured_lawful}
use Rattle.label_network.proofs.measured.LabelStagesStages.stages.Goals as goal

pub returns-clause-lawful : goal.returns-clause-lawful
returns-clause-lawful g c = rw (← c.self.view_is) (measured_lawful _ _ _ c.self.invariant)

use Rattle.symmetry_reduction.proofs.network.SymmetryReducedStages.stages.Goals as goal

pub returns-clause-lawful : goal.returns-clause-lawful
returns-clause-lawful g c = rw (← c.self.view_is) c.self.invariant.ordered.lawful

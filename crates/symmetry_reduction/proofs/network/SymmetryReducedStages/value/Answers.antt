use Rattle.symmetry_reduction.proofs.network.SymmetryReducedStages.value.Goals as goal

pub value-requires : goal.value-requires
value-requires g c = c.self.invariant.ordered.reached (g.M.Measure.meaning c.self.inside.stages.1).floor.count c.args.key.now (rw (← c.self.view_is) at c.requires)

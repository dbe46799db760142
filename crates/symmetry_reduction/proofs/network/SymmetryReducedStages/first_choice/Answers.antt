use Rattle.symmetry_reduction.proofs.network.SymmetryReducedStages.first_choice.Goals as goal

pub first_choice-requires-clause-reached : goal.first_choice-requires-clause-reached
first_choice-requires-clause-reached g c = c.self.invariant.ordered.reached c.args.stage c.args.key.now (rw (← c.self.view_is) at c.requires.reached)

use Rattle.symmetry_reduction.proofs.network.SymmetryReducedStages.next_choice.Goals as goal

pub next_choice-requires-clause-reached : goal.next_choice-requires-clause-reached
next_choice-requires-clause-reached g c = c.self.invariant.ordered.reached c.args.stage c.args.key.now (rw (← c.self.view_is) at c.requires.reached)

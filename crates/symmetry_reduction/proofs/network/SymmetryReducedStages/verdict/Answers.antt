use Rattle.symmetry_reduction.proofs.network.SymmetryReducedStages.verdict.Goals as goal

pub verdict-requires : goal.verdict-requires
verdict-requires g c = c.self.invariant.ordered.reached c.args.stage c.args.key.now (rw (← c.self.view_is) at c.requires)

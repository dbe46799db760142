use Rattle.std.proofs.Common.{◌∙◌, sym}
use Rattle.symmetry_reduction.proofs.network.SymmetryReducedStages.rest.Goals as goal

pub rest-requires : goal.rest-requires
rest-requires g c = c.self.invariant.ordered.reached c.args.stage c.args.key.now (rw (← c.self.view_is) at c.requires)

pub returns : goal.returns
returns g c =
    let r = c.self.invariant.ordered.reached c.args.stage c.args.key.now (rw (← c.self.view_is) at c.requires) in
    rw (← c.self.view_is) (c.rest.ensures ∙ sym (c.self.invariant.ordered.total c.args.stage c.args.key.now r))

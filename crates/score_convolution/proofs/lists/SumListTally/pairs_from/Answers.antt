use Rattle.std.proofs.Common.{ap, ◌∙◌, subst, arith}
use Rattle.score_convolution.specs.Places.{Rise, draws_of}
use Rattle.score_convolution.proofs.Spots.{cells-draws, spots-paired}
use Rattle.score_convolution.proofs.lists.SumListTally.pairs_from.Goals as goal

pub pairs_from-requires-clause-light : goal.pairs_from-requires-clause-light
pairs_from-requires-clause-light g c = omega (arith, ap draws_of c.other.view_is, cells-draws c.args.other.now (subst (Rise 0) c.other.view_is c.other.invariant), c.requires.light)

pub pairs_from-requires-clause-fits : goal.pairs_from-requires-clause-fits
pairs_from-requires-clause-fits g c =
    rw (c.self.view_is, c.other.view_is, ← cells-draws c.args.self.now (subst (Rise 0) c.self.view_is c.self.invariant), ← cells-draws c.args.other.now (subst (Rise 0) c.other.view_is c.other.invariant)) c.requires.fits

pub returns : goal.returns
returns g c =
    (rw (c.self.view_is, c.other.view_is) at c.pairs_from.ensures) ∙ spots-paired c.args.place c.args.self.now c.args.other.now (subst (Rise 0) c.self.view_is c.self.invariant) (subst (Rise 0) c.other.view_is c.other.invariant)

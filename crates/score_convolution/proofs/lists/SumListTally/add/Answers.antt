use Rattle.std.proofs.Common.{List, ap, subst, arith}
use Rattle.score_convolution.specs.Places.{Rise, behind, draws_of}
use Rattle.score_convolution.specs.declared.lists.Spot.{Spot}
use Rattle.score_convolution.proofs.Spots.{cells-draws, cells-end, spots-poured}
use Rattle.score_convolution.proofs.lists.SumListTally.add.Goals as goal

pub merged-requires-clause-near : goal.merged-requires-clause-near
merged-requires-clause-near g c = omega (
  arith,
  ap (behind 0) c.self.view_is,
  ap (behind 0) c.from.view_is,
  cells-end c.args.self.now (subst (Rise 0) c.self.view_is c.self.invariant),
  cells-end c.args.from.now (subst (Rise 0) c.from.view_is c.from.invariant),
  c.requires.near,
)

pub merged-requires-clause-light : goal.merged-requires-clause-light
merged-requires-clause-light g c = omega (
  arith,
  ap draws_of c.self.view_is,
  ap draws_of c.from.view_is,
  cells-draws c.args.self.now (subst (Rise 0) c.self.view_is c.self.invariant),
  cells-draws c.args.from.now (subst (Rise 0) c.from.view_is c.from.invariant),
  c.requires.fits,
)

pub returns-clause-told : goal.returns-clause-told
returns-clause-told g c =
    let new : List Spot = c.in_ok-self-inside.field-0 in
    spots-poured c.args.place c.args.from.now c.args.self.now new (subst (Rise 0) c.from.view_is c.from.invariant) (subst (Rise 0) c.self.view_is c.self.invariant) c.in_ok-self-inside.ensures.rise
    (λ f. (rw (c.self.view_is, c.from.view_is) at (c.in_ok-self-inside.ensures.told f)))

pub returns-clause-long : goal.returns-clause-long
returns-clause-long g c = omega (
  arith,
  cells-end c.in_ok-self-inside.field-0 c.in_ok-self-inside.ensures.rise,
  cells-end c.args.self.now (subst (Rise 0) c.self.view_is c.self.invariant),
  cells-end c.args.from.now (subst (Rise 0) c.from.view_is c.from.invariant),
  ap (behind 0) c.self.view_is,
  ap (behind 0) c.from.view_is,
  c.in_ok-self-inside.ensures.long,
)

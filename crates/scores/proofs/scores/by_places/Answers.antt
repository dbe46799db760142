use Rattle.std.proofs.Common.{◌∙◌, length}
use Rattle.scores.specs.PlaceSteps.{place_score}
use Rattle.scores.proofs.PlaceSums.{places-length, unit-small}
use Rattle.scores.proofs.scores.by_places.Goals as goal

pub averaged-requires-clause-as_many : goal.averaged-requires-clause-as_many
averaged-requires-clause-as_many c = rw (c.as_slice.ensures, c.in_ok-places.ensures) (places-length (place_score c.args.kind (length c.args.values.now)) (length c.args.values.now))

pub averaged-requires-clause-small : goal.averaged-requires-clause-small
averaged-requires-clause-small c = rw (c.as_slice.ensures, c.in_ok-places.ensures, c.requires.units) (λ h. unit-small c.args.kind (length c.args.values.now) h)

pub returns : goal.returns
returns c = rw (c.as_slice.ensures ∙ c.in_ok-places.ensures) at c.averaged.ensures

use Rattle.std.proofs.Common.{◌≡◌, map, take}
use Rattle.midranks.specs.Ties.{tie_groups}
use Rattle.kendall_test.specs.Kendall.{place_among}
use Rattle.kendall_test.proofs.kendall_made.places_of.Given as goal

abbrev pub invariant-loop-value : goal.invariant-loop-value
invariant-loop-value l = l.places ≡ map (place_among (tie_groups l.values)) (take l.value-index l.values)

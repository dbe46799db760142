use Rattle.std.proofs.Common.{◌≡◌, ◌++◌, drop}
use Rattle.stratified_ranks.specs.StratifiedRanks.{at_place}
use Rattle.stratified_ranks.proofs.rank_strata.at_place.Given as goal

abbrev pub invariant-loop-i : goal.invariant-loop-i
invariant-loop-i g l = l.own ++ at_place l.place (drop l.i l.places) (drop l.i l.items) ≡ at_place l.place l.places l.items

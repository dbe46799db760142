use Rattle.stratified_ranks.specs.RankSteps.{AreLaterWays}
use Rattle.stratified_ranks.proofs.rank_rooms.later_ways.Given as goal

abbrev pub invariant-loop-done : goal.invariant-loop-done
invariant-loop-done l = AreLaterWays l.columns l.done l.ways

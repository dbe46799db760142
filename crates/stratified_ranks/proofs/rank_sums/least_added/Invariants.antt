use Rattle.std.proofs.Common.{◌≡◌, ◌+◌, drop}
use Rattle.stratified_ranks.specs.RankRooms.{least_added}
use Rattle.stratified_ranks.proofs.rank_sums.least_added.Given as goal

abbrev pub invariant-loop-i : goal.invariant-loop-i
invariant-loop-i l = l.sum + least_added (drop l.i l.columns) l.later ≡ least_added l.columns l.remaining

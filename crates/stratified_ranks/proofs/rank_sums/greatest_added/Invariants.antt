use Rattle.std.proofs.Common.{◌≡◌, ◌+◌, drop}
use Rattle.stratified_ranks.specs.RankRooms.{greatest_added}
use Rattle.stratified_ranks.proofs.rank_sums.greatest_added.Given as goal

abbrev pub invariant-loop-i : goal.invariant-loop-i
invariant-loop-i l = l.sum + greatest_added (drop l.i l.columns) l.later ≡ greatest_added l.columns l.remaining

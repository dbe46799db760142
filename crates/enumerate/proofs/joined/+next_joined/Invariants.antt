use Rattle.std.proofs.Common.{length}
use Rattle.enumerate.proofs.joined.+next_joined.Given as goal

abbrev pub decreases-next_joined : goal.decreases-next_joined
decreases-next_joined l = length l.lengths.now

use Rattle.std.proofs.Common.{◌≡◌, pos, map, take}
use Rattle.scores.proofs.ranks.wilcoxon.Given as goal

abbrev pub invariant-loop-rank : goal.invariant-loop-rank
invariant-loop-rank l = l.scores ≡ map pos (take l.rank-index l.rank-items)

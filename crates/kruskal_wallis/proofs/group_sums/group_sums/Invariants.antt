use Rattle.std.proofs.Common.{◌≡◌, take, length}
use Rattle.kruskal_wallis.specs.KruskalWallis.{group_sums}
use Rattle.kruskal_wallis.proofs.group_sums.group_sums.Given as goal

abbrev pub invariant-loop-i : goal.invariant-loop-i
invariant-loop-i l = record {
  long : length l.sums ≡ length l.fn.sums;
  filled : take l.i l.sums ≡ take l.i (group_sums (length l.fn.sums) l.scores l.labels);
}

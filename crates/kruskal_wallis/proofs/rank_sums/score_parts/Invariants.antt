use Rattle.std.proofs.Common.{◌≡◌, take, length}
use Rattle.kruskal_wallis.specs.RankSums.{score_parts}
use Rattle.kruskal_wallis.proofs.rank_sums.score_parts.Given as goal

abbrev pub invariant-loop-i : goal.invariant-loop-i
invariant-loop-i l = record {
  long : length l.parts ≡ length l.counts;
  filled : take l.i l.parts ≡ take l.i (score_parts l.score l.counts);
}

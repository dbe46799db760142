use Rattle.std.proofs.Common.{◌≡◌, take, length}
use Rattle.later_scores.specs.LaterSums.{later_scores}
use Rattle.kruskal_wallis.specs.RankSumSteps.{parts_of}
use Rattle.kruskal_wallis.proofs.rank_sums.write_parts.Given as goal

abbrev pub invariant-loop-i : goal.invariant-loop-i
invariant-loop-i l = record {
  long : length l.parts ≡ length l.sizes;
  filled : take l.i l.parts ≡ take l.i (parts_of l.end (later_scores l.later.scores.items l.later.columns.items l.stage) l.sizes);
}

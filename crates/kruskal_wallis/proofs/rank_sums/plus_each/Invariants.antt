use Rattle.std.proofs.Common.{◌≡◌, take, length}
use Rattle.networks.specs.PartialSums.{plus}
use Rattle.kruskal_wallis.proofs.rank_sums.plus_each.Given as goal

abbrev pub invariant-loop-i : goal.invariant-loop-i
invariant-loop-i l = record {
  long : length l.next ≡ length l.partial;
  filled : take l.i l.next ≡ take l.i (plus l.partial l.added);
}

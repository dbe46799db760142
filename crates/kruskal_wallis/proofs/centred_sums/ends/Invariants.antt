use Rattle.std.proofs.Common.{◌≡◌, take, length}
use Rattle.networks.specs.PartialSums.{plus}
use Rattle.kruskal_wallis.proofs.centred_sums.ends.Given as goal

abbrev pub invariant-loop-i : goal.invariant-loop-i
invariant-loop-i l = record {
  long : length l.ends ≡ length l.partial;
  filled : take l.i l.ends ≡ take l.i (plus l.partial l.added);
}

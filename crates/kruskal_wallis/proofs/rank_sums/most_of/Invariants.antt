use Rattle.kruskal_wallis.proofs.EnoughScores.{IsEnoughTo}
use Rattle.kruskal_wallis.proofs.rank_sums.most_of.Given as goal

abbrev pub invariant-loop-i : goal.invariant-loop-i
invariant-loop-i l = IsEnoughTo l.fn.sizes l.i l.most

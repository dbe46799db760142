use Rattle.std.proofs.Common.{◌≡◌, ◌/◌, map, take}
use Rattle.kruskal_wallis.proofs.group_sums.size_factors.Given as goal

abbrev pub invariant-loop-size : goal.invariant-loop-size
invariant-loop-size l = l.factors.items ≡ map (λ n. l.multiple / n) (take l.size-index l.sizes)

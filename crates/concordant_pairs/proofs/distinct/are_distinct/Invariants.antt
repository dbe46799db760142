use Rattle.std.proofs.Common.{◌≡◌, take, true, nat_eq}
use Rattle.std.specs.List.{list_all}
use Rattle.concordant_pairs.proofs.distinct.are_distinct.Given as goal

abbrev pub invariant-loop-i : goal.invariant-loop-i
invariant-loop-i l = list_all (λ c. nat_eq c 1) (take l.i l.counts) ≡ true

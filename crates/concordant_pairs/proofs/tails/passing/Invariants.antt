use Rattle.std.proofs.Common.{◌≡◌, ◌≤◌, ◌*◌, get_or, cond}
use Rattle.std.specs.List.{sum_by}
use Rattle.weights.specs.Labellings.{labels}
use Rattle.weights.specs.Rules.{passes}
use Rattle.concordant_pairs.specs.ConcordantTails.{even_value}
use Rattle.concordant_pairs.proofs.tails.passing.Given as goal

abbrev pub invariant-loop-pairs : goal.invariant-loop-pairs
invariant-loop-pairs l = (l.weight ≡ sum_by (λ u. get_or l.fn.counts u 0 * cond (passes l.fn.rule (even_value l.fn.base l.fn.step u)) 1 0) (labels l.pairs)) × (l.weight ≤ sum_by (λ u. get_or l.fn.counts u 0 * 1) (labels l.pairs))

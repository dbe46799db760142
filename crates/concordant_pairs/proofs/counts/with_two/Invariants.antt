use Rattle.concordant_pairs.specs.ConcordantSteps.{AreMixed}
use Rattle.concordant_pairs.proofs.counts.with_two.Given as goal

abbrev pub invariant-loop-before : goal.invariant-loop-before
invariant-loop-before l = AreMixed l.rest l.before l.other l.counts.items

use Rattle.std.proofs.Common.{◌∙◌, ap, arith}
use Rattle.std.specs.Prelude.{max}
use Rattle.kruskal_wallis.proofs.EnoughScores.{enough-end, enough-first, enough-next}
use Rattle.kruskal_wallis.proofs.rank_sums.most_of.Goals as goal

pub loop-i-init : goal.loop-i-init
loop-i-init c = enough-first c.args.sizes.now

pub loop-i-preserved : goal.loop-i-preserved
loop-i-preserved c = enough-next c.args.sizes.now c.loop-i.i c.loop-i.most c.max-most.result c.args.all c.requires c.loop-i.invariant (c.max-most.ensures ∙ ap (max c.loop-i.most) c.min.ensures)

pub returns-clause-within : goal.returns-clause-within
returns-clause-within c = omega (arith, c.loop-i.invariant.within, c.requires)

pub returns-clause-enough : goal.returns-clause-enough
returns-clause-enough c = enough-end c.args.sizes.now c.loop-i.i c.loop-i.most (omega (arith, c.loop-i-test.false)) c.loop-i.invariant

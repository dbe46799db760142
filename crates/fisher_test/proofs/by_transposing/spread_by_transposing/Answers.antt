use Rattle.std.proofs.Common.{◌∙◌, arith}
use Rattle.fisher_test.proofs.FisherTests.{bounded}
use Rattle.fisher_test.proofs.TransposedSpreads.{scales-to, weights-fit}
use Rattle.fisher_test.proofs.by_transposing.spread_by_transposing.Goals as goal

pub scaled_spread-requires-clause-few : goal.scaled_spread-requires-clause-few
scaled_spread-requires-clause-few c = omega (arith, c.frame-all.ensures.frame.total, bounded c.args.table.now c.made-made.ensures.fitting)

pub scaled_spread-requires-clause-scalable : goal.scaled_spread-requires-clause-scalable
scaled_spread-requires-clause-scalable c = (scales-to c.requires c.frame-all.ensures.frame.total c.frame-of.ensures.frame.total c.in_ok-given.ensures.lines).scalable

pub scaled_spread-requires-clause-ascending : goal.scaled_spread-requires-clause-ascending
scaled_spread-requires-clause-ascending c = (scales-to c.requires c.frame-all.ensures.frame.total c.frame-of.ensures.frame.total c.in_ok-given.ensures.lines).ascending

pub returns-clause-lines : goal.returns-clause-lines
returns-clause-lines c = c.in_ok-spread.ensures ∙ (scales-to c.requires c.frame-all.ensures.frame.total c.frame-of.ensures.frame.total c.in_ok-given.ensures.lines).law

pub returns-clause-weights : goal.returns-clause-weights
returns-clause-weights c =
    weights-fit c.args.table.now (bounded c.args.table.now c.made-made.ensures.fitting) c.in_ok-spread.spread
    (c.in_ok-spread.ensures ∙ (scales-to c.requires c.frame-all.ensures.frame.total c.frame-of.ensures.frame.total c.in_ok-given.ensures.lines).law)

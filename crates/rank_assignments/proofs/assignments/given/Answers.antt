use Rattle.std.proofs.Common.{arith}
use Rattle.rank_assignments.proofs.AssignmentSteps.{gift-small, given-more}
use Rattle.rank_assignments.proofs.assignments.given.Goals as goal

pub overflow_mul-all : goal.overflow_mul-all
overflow_mul-all c = omega (arith, gift-small c.args.treatments c.args.items.now c.args._judge c.requires c.loop-i.i c.loop-i-test.true)

pub overflow_add-all : goal.overflow_add-all
overflow_add-all c = omega (arith, gift-small c.args.treatments c.args.items.now c.args._judge c.requires c.loop-i.i c.loop-i-test.true, c.loop-i.invariant.small, c.loop-i-test.true, c.requires.few)

pub loop-i-preserved : goal.loop-i-preserved
loop-i-preserved c = record {
  is = omega (arith, given-more c.args.treatments c.args.items.now c.args._judge c.requires c.loop-i.i c.loop-i-test.true, c.loop-i.invariant.is);
  small = omega (arith, gift-small c.args.treatments c.args.items.now c.args._judge c.requires c.loop-i.i c.loop-i-test.true, c.loop-i.invariant.small);
}

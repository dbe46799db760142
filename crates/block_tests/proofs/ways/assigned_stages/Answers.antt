use Rattle.networks.proofs.GoingOn.{goes_on-then}
use Rattle.block_tests.specs.BlockTests.{block_counts, block_test}
use Rattle.block_tests.specs.EvenBlocks.{assigned_before}
use Rattle.block_tests.proofs.ways.assigned_stages.Goals as goal

pub returns-clause-follows : goal.returns-clause-follows
returns-clause-follows c t = rw c.new.ensures.parts (c.new.ensures.follows (block_test c.args.test.now) t (c.in_ok-stages.ensures.follows t))

pub returns-clause-goes_on : goal.returns-clause-goes_on
returns-clause-goes_on c =
    let one = c.in_ok-stages.ensures.goes_on in
    let other = c.new.ensures.goes_on (assigned_before (block_counts c.args.test.now) c.args.stage) one.within in
    rw c.new.ensures.parts (goes_on-then one other)

pub returns-clause-taken : goal.returns-clause-taken
returns-clause-taken c key r =
    let sums = c.in_ok-stages.ensures.long key r in
    rw c.new.ensures.parts (record {
      few = sums.few;
      long = sums.long;
      holds = record {
        long = sums.holds;
        stage = assigned_before (block_counts c.args.test.now) c.args.stage;
        reached = c.in_ok-stages.ensures.goes_on.reached key r;
      };
    })

use Rattle.std.proofs.Common.{subst, sym}
use Rattle.std.specs.Prelude.{Contains}
use Rattle.block_tests.specs.BlockTests.{block_test}
use Rattle.block_tests.specs.PreparedSteps.{tests_of}
use Rattle.block_tests.proofs.Fitting.{member-of}
use Rattle.block_tests.proofs.block_test.BlockStatistic.statistic_of.Goals as goal

pub block_statistic-requires-clause-whole : goal.block_statistic-requires-clause-whole
block_statistic-requires-clause-whole c =
    (member-of (tests_of c.self.inside.kind c.self.inside.blocks c.self.inside.treatments c.self.inside.cells) c.self.invariant.fitting.blocks c.args.cells.now
    (subst (λ t. Contains (block_test t).reference c.args.cells.now) (sym c.self.view_is) c.requires)).long

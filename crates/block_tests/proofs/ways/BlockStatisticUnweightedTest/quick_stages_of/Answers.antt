use Rattle.std.proofs.Common.{sym, subst}
use Rattle.std.proofs.lemmas.Result.{IfOk-weaker}
use Rattle.networks.specs.Follows.{Follows}
use Rattle.block_tests.specs.BlockTests.{block_test}
use Rattle.block_tests.proofs.ways.BlockStatisticUnweightedTest.quick_stages_of.Goals as goal

pub returns-in-Page : goal.returns-in-Page
returns-in-Page c =
    IfOk-weaker c.stages_of.result _ _ (λ built e t. subst (Follows (block_test c.args.self.now) t) (sym e) (c.sound.ensures.follows t)) c.stages_of.ensures

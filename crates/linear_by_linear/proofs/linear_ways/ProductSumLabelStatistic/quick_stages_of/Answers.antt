use Rattle.std.proofs.Common.{subst, sym}
use Rattle.std.proofs.lemmas.Result.{IfOk-weaker}
use Rattle.networks.specs.Follows.{Follows}
use Rattle.linear_by_linear.specs.LinearByLinear.{linear_test}
use Rattle.linear_by_linear.proofs.LinearTests.{linear-sound}
use Rattle.linear_by_linear.proofs.SingleSubjects.{follows-singles}
use Rattle.linear_by_linear.proofs.linear_ways.ProductSumLabelStatistic.quick_stages_of.Goals as goal

pub returns-then-len-eq2 : goal.returns-then-len-eq2
returns-then-len-eq2 c =
    IfOk-weaker c.stages_of.result _ _ (λ s e t. subst (Follows (linear_test c.args.self.now) t) (sym e) ((linear-sound c.args.self.now c.made.ensures.fitting).follows t)) c.stages_of.ensures

pub returns-else-len-eq2 : goal.returns-else-len-eq2
returns-else-len-eq2 c =
    IfOk-weaker c.by_subjects.result _ _ (λ s e t. subst (Follows (linear_test c.args.self.now) t) (sym e) (follows-singles c.args.self.now c.made.ensures.fitting t)) c.by_subjects.ensures

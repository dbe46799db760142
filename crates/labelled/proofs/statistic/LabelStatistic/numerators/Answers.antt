use Rattle.std.proofs.Common.{◌∙◌}
use Rattle.weights.specs.declared.tails.Tail.TheVariants.{Less}
use Rattle.networks.specs.Judged.{judge_of}
use Rattle.networks.proofs.Following.{extreme-is}
use Rattle.labelled.specs.LabelTests.{label_test}
use Rattle.labelled.proofs.statistic.LabelStatistic.numerators.Goals as goal

pub tail_sums_by_rooms-requires : goal.tail_sums_by_rooms-requires
tail_sums_by_rooms-requires g c =
    record { judge = judge_of (label_test (g.Self.LabelStatistic.says c.args.self.now)); intervals = (c.in_ok-stages.ensures Less).intervals }

pub returns : goal.returns
returns g c t a =
    c.in_ok-sums.ensures.sum t a ∙ extreme-is (label_test (g.Self.LabelStatistic.says c.args.self.now)) t (g.Self.Built.Stages.network c.in_ok-stages.stages) (c.in_ok-stages.ensures t)

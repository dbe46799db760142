use Rattle.std.proofs.Common.{ap}
use Rattle.label_network.specs.LabelNetwork.{label_network}
use Rattle.kruskal_wallis.proofs.kruskal_wallis_ways.SquaredSumsLabelStatistic.stages_of.Goals as goal

pub returns : goal.returns
returns c = ap label_network c.in_ok-stages.ensures.sums.meaning

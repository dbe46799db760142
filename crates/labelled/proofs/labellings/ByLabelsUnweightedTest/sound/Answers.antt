use Rattle.labelled.proofs.LabelLaws.{label-answered}
use Rattle.labelled.proofs.labellings.ByLabelsUnweightedTest.sound.Goals as goal

pub returns : goal.returns
returns g c = rw (← c.self.view_is) (label-answered (g.S.LabelStatistic.says c.self.inside.statistic) _ _ c.sound.ensures)

use Rattle.two_by_two.proofs.OddsTests.{odds_labels}
use Rattle.two_by_two.proofs.odds_table.OddsTable.label_facts.Goals as goal

pub returns : goal.returns
returns c = odds_labels c.args.self.now c.total-total.result c.total-total.ensures.kept c.args._labels.now c.requires

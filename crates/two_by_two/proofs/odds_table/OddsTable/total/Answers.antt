use Rattle.two_by_two.proofs.OddsTests.{odds_facts}
use Rattle.two_by_two.proofs.odds_table.OddsTable.total.Goals as goal

pub returns-clause-facts : goal.returns-clause-facts
returns-clause-facts c = rw c.self.view_is at (odds_facts _ c.self.inside.total c.self.invariant)

use Rattle.two_by_two.proofs.OddsTests.{follows}
use Rattle.two_by_two.proofs.odds_ways.OddsTablePrepared.stages_of.Goals as goal

pub returns-clause-follows : goal.returns-clause-follows
returns-clause-follows c t has = follows c.args.self.now c.total-total.result c.total-total.ensures.kept t

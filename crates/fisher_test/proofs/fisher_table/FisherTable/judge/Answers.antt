use Rattle.fisher_test.specs.FisherExact.{fisher_test}
use Rattle.fisher_test.proofs.fisher_table.FisherTable.judge.Goals as goal

pub returns : goal.returns
returns c = c.of.ensures (fisher_test c.args.self.now) c.made.ensures.frame

use Rattle.fisher_test.proofs.SortedTests.{fisher_facts}
use Rattle.fisher_test.proofs.fisher_table.FisherTable.facts.Goals as goal

pub returns : goal.returns
returns c = fisher_facts c.args.self.now c.made-made.ensures.fitting

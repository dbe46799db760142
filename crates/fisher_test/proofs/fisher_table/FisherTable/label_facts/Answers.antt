use Rattle.fisher_test.proofs.SortedTests.{fisher_labels}
use Rattle.fisher_test.proofs.fisher_table.FisherTable.label_facts.Goals as goal

pub returns : goal.returns
returns c = fisher_labels c.args.self.now c.made-made.ensures.fitting c.args._labels.now c.requires

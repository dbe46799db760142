use Rattle.std.proofs.Common.{ap}
use Rattle.label_network.specs.LabelNetwork.{label_network}
use Rattle.fisher_test.proofs.fisher_table.FisherTable.by_tail.Goals as goal

pub returns-in_ok-by_first_cell-in-Less : goal.returns-in_ok-by_first_cell-in-Less
returns-in_ok-by_first_cell-in-Less c = rw c.in-Less.is c.in_ok-by_first_cell-in-Less.ensures

pub returns-in_ok-by_first_cell-in-Greater : goal.returns-in_ok-by_first_cell-in-Greater
returns-in_ok-by_first_cell-in-Greater c = rw c.in-Greater.is c.in_ok-by_first_cell-in-Greater.ensures

pub returns-in_ok-by_weight-in-Two : goal.returns-in_ok-by_weight-in-Two
returns-in_ok-by_weight-in-Two c = rw c.in-Two.is (ap label_network c.in_ok-by_weight-in-Two.ensures)

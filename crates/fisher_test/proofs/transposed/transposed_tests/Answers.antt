use Rattle.fisher_test.proofs.TransposedCells.{are-transposed}
use Rattle.fisher_test.proofs.TransposedSpreads.{in-ratio-of-totals}
use Rattle.fisher_test.proofs.transposed.transposed_tests.Goals as goal

pub returns-clause-ratio : goal.returns-clause-ratio
returns-clause-ratio c = in-ratio-of-totals

pub returns-clause-transposed : goal.returns-clause-transposed
returns-clause-transposed c = are-transposed

use Rattle.kendall_test.proofs.TransposedRatios.{are-in-ratio}
use Rattle.kendall_test.proofs.transposed.transposed_tests.Goals as goal

pub returns : goal.returns
returns c = are-in-ratio

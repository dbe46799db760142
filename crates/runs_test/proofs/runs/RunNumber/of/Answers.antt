use Rattle.runs_test.proofs.RunsFitting.{are-runs}
use Rattle.runs_test.proofs.runs.RunNumber.of.Goals as goal

pub invariant_of-result : goal.invariant_of-result
invariant_of-result c = rw (c.in_ok-copy.ensures, c.in_ok-copy-2.ensures, c.in_ok-copy-3.ensures) (are-runs c.args.sequence.now c.requires)

use Rattle.k_sample_tests.specs.KSamples.{k_sample_test}
use Rattle.worked_surface.proofs.Conditions.{has-tails}
use Rattle.worked_surface.proofs.k_sample_tests_calls.answer.Goals as goal

pub answer-requires : goal.answer-requires
answer-requires c = has-tails (k_sample_test c.args.problem.now) c.args.tails c.requires.less c.requires.greater c.requires.two

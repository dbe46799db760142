use Rattle.std.proofs.Common.{◌∙◌}
use Rattle.one_sample_tests.proofs.FittingSamples.{stages-fit}
use Rattle.one_sample_tests.proofs.mark_sum.MarkSumUnweightedTest.stages_of.Goals as goal

pub invariant_of-new : goal.invariant_of-new
invariant_of-new c = record { sound = rw (c.in_ok-groups.ensures ∙ c.made.ensures.groups, c.requires) (stages-fit c.args.self.now c.made.ensures.total_fits c.made.ensures.bound_fits) }

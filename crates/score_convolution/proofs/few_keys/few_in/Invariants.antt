use Rattle.std.proofs.Common.{◌-◌}
use Rattle.stage_network.specs.SweepSteps.{IsSweeping, first_course}
use Rattle.networks.specs.declared.tail_sums.Kept.TheVariants.{Open}
use Rattle.score_convolution.proofs.few_keys.few_in.Given as goal

abbrev pub ghost-advance : goal.ghost-advance
ghost-advance g a = first_course (g.S.Stages.network a.stages.now) a.self.now.keep

-- it stays on its course
abbrev pub invariant-loop-sweep : goal.invariant-loop-sweep
invariant-loop-sweep g l = IsSweeping (g.S.Stages.network l.stages) (g.S.Roomed.room_width l.stages) (g.S.Roomed.step_width l.stages) g.C.Count.LIMIT (first_course (g.S.Stages.network l.stages) (Open l.fn.tails)) l.sweep

abbrev pub decreases-loop-sweep : goal.decreases-loop-sweep
decreases-loop-sweep g l = l.count - l.sweep.stage

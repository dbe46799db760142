use Rattle.std.proofs.Common.{◌-◌}
use Rattle.stage_network.specs.SweepSteps.{IsSweeping}
use Rattle.score_convolution.proofs.few_keys.onward_in.Given as goal

abbrev pub ghost-advance : goal.ghost-advance
ghost-advance g a = record { keep = a.self.now.keep; stage = g.from.stage; nodes = g.from.nodes }

-- it stays on its course
abbrev pub invariant-loop-sweep : goal.invariant-loop-sweep
invariant-loop-sweep g l = IsSweeping (g.S.Stages.network l.stages) (g.S.Roomed.room_width l.stages) (g.S.Roomed.step_width l.stages) g.C.Count.LIMIT (record { keep = l.initial.sweep.keep; stage = g.from.stage; nodes = g.from.nodes }) l.sweep

abbrev pub decreases-loop-sweep : goal.decreases-loop-sweep
decreases-loop-sweep g l = l.count - l.sweep.stage

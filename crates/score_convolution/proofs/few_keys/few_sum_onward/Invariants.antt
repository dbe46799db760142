use Rattle.networks.specs.declared.tail_sums.Kept.TheVariants.{All}
use Rattle.stage_network.specs.FromKeys.{course_from}
use Rattle.score_convolution.proofs.few_keys.few_sum_onward.Given as goal

-- what is kept does not matter
abbrev pub ghost-onward_in : goal.ghost-onward_in
ghost-onward_in g a = course_from (g.S.Stages.network a.stages.now) All a.stage a.keys.now a.weights.now

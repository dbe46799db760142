use Rattle.std.proofs.Common.{ap}
use Rattle.networks.specs.declared.tail_sums.TailSum.{TailSum}
use Rattle.stage_network.proofs.quick.quick_numerators.Goals as goal

pub returns : goal.returns
returns g c t asked = ap (λ (s : TailSum). s.sum) (c.in_ok-sums.ensures t asked)

use Rattle.std.proofs.Common.{◌∙◌, ap}
use Rattle.networks.specs.Lines.{line_sum}
use Rattle.stage_network.proofs.NodeLines.{spread-same}
use Rattle.stage_network.proofs.spreads.node_values.Goals as goal

pub returns : goal.returns
returns g c = spread-same _ _ _ (λ p. ap (line_sum p) c.as_mut_slice.ensures.value ∙ c.in_ok-lines.ensures p) c.in_ok-spread.ensures

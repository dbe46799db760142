use Rattle.std.proofs.Common.{length, ap, sym, ◌∙◌}
use Rattle.stage_network.specs.StageSteps.{Housed}
use Rattle.stage_network.proofs.Housing.{count-whole}
use Rattle.stage_network.proofs.nodes.StageNodes.len.Goals as goal

pub returns : goal.returns
returns g c = c.len.ensures ∙ c.self.inside.homes.ok.0 ∙ sym (count-whole _ _ _ _ _ c.self.invariant) ∙ ap (λ (h : Housed). length h.nodes) c.self.view_is

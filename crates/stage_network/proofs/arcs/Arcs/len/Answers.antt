use Rattle.std.proofs.Common.{length, ap, sym, ◌∙◌}
use Rattle.stage_network.specs.ArcSteps.{ArcList}
use Rattle.stage_network.proofs.ArcLists.{length-arcs}
use Rattle.stage_network.proofs.arcs.Arcs.len.Goals as goal

pub returns : goal.returns
returns c =
    let p = c.self.inside in
    c.len.ensures ∙ p.links.ok.0 ∙ sym (length-arcs p.width p.choices.items p.links.items) ∙ ap (λ (p : ArcList). length p.arcs) c.self.view_is

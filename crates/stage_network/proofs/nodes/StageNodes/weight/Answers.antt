use Rattle.std.proofs.Common.{◌<◌, length, get_or, ap, sym, ◌∙◌, arith}
use Rattle.stage_network.specs.StageSteps.{Housed}
use Rattle.stage_network.proofs.Housing.{count-whole, whole-weight}
use Rattle.stage_network.proofs.nodes.StageNodes.weight.Goals as goal

pub weight-requires : goal.weight-requires
weight-requires g c =
    let low : c.args.i < length c.self.inside.homes.items = omega (arith, c.requires, ap (λ (h : Housed). length h.nodes) c.self.view_is, count-whole _ _ _ _ _ c.self.invariant) in
    omega (arith, low, c.self.invariant.each)

pub returns : goal.returns
returns g c = λ d.
    let low : c.args.i < length c.self.inside.homes.items = omega (arith, c.requires, ap (λ (h : Housed). length h.nodes) c.self.view_is, count-whole _ _ _ _ _ c.self.invariant) in
    c.weight.ensures d ∙ sym (whole-weight _ _ _ _ _ c.self.invariant c.args.i d low) ∙ ap (λ (h : Housed). (get_or h.nodes c.args.i d).weight) c.self.view_is

use Rattle.std.proofs.Common.{◌<◌, length, drop, get_or, ap, sym, ◌∙◌, arith}
use Rattle.stage_network.specs.StageSteps.{Housed}
use Rattle.stage_network.proofs.Housing.{count-whole, whole-partial}
use Rattle.stage_network.proofs.nodes.StageNodes.partial.Goals as goal

pub key-requires : goal.key-requires
key-requires g c =
    let low : c.args.i < length c.self.inside.homes.items = omega (arith, c.requires, ap (λ (h : Housed). length h.nodes) c.self.view_is, count-whole _ _ _ _ _ c.self.invariant) in
    omega (arith, low, c.self.invariant.each)

pub returns-clause-partial : goal.returns-clause-partial
returns-clause-partial g c = λ d.
    let low : c.args.i < length c.self.inside.homes.items = omega (arith, c.requires, ap (λ (h : Housed). length h.nodes) c.self.view_is, count-whole _ _ _ _ _ c.self.invariant) in
    c.key.ensures.key d ∙ sym (whole-partial _ _ _ _ _ c.self.invariant c.args.i d low) ∙ ap (λ (h : Housed). drop h.room_width (get_or h.nodes c.args.i d).key) c.self.view_is

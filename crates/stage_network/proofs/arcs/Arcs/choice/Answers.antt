use Rattle.std.proofs.Common.{◌<◌, length, get_or, ap, sym, ◌∙◌, arith}
use Rattle.stage_network.specs.declared.links.Link.{Link}
use Rattle.stage_network.specs.ArcSteps.{Arc, ArcList}
use Rattle.stage_network.proofs.ArcLists.{length-arcs, arcs-at, choice-fits}
use Rattle.stage_network.proofs.arcs.Arcs.choice.Goals as goal

pub choice_at-requires : goal.choice_at-requires
choice_at-requires c =
    let p = c.self.inside in
    rw (c.deref.ensures.value, c.self.invariant.long) (choice-fits p.width (length p.links.items) c.args.i (omega (arith, c.requires, ap (λ (p : ArcList). length p.arcs) c.self.view_is, length-arcs p.width p.choices.items p.links.items)))

pub returns-clause-choice : goal.returns-clause-choice
returns-clause-choice c = λ d.
    let p = c.self.inside in
    let low : c.args.i < length p.links.items = omega (arith, c.requires, ap (λ (p : ArcList). length p.arcs) c.self.view_is, length-arcs p.width p.choices.items p.links.items) in
    let some : Link = record { start = 0; end = 0; weight = 0; target = 0; next = 0 } in
    (rw c.deref.ensures.value at c.choice_at.ensures.choice) ∙ sym (ap (λ (a : Arc). a.choice) (arcs-at p.width p.choices.items p.links.items c.args.i d some low)) ∙ ap (λ (p : ArcList). (get_or p.arcs c.args.i d).choice) c.self.view_is

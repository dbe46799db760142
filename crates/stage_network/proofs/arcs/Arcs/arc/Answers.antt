use Rattle.std.proofs.Common.{◌<◌, length, get_or, ap, sym, subst, ◌∙◌, arith}
use Rattle.stage_network.specs.declared.links.Link.{Link}
use Rattle.stage_network.specs.ArcSteps.{Arc, ArcList, IsPlace}
use Rattle.stage_network.proofs.ArcLists.{length-arcs, arcs-at, next-read}
use Rattle.stage_network.proofs.arcs.Arcs.arc.Goals as goal

pub index-requires : goal.index-requires
index-requires c =
    let p = c.self.inside in
    let low : c.args.i < length p.links.items = omega (arith, c.requires, ap (λ (p : ArcList). length p.arcs) c.self.view_is, length-arcs p.width p.choices.items p.links.items) in
    omega (arith, low, p.links.ok.0)

pub returns : goal.returns
returns c =
    let p = c.self.inside in
    let low : c.args.i < length p.links.items = omega (arith, c.requires, ap (λ (p : ArcList). length p.arcs) c.self.view_is, length-arcs p.width p.choices.items p.links.items) in
    let is = λ (d : Arc). sym (arcs-at p.width p.choices.items p.links.items c.args.i d c.index.result.now low) in
    record {
      start = λ d. ap (λ (a : Link). a.start) c.index.ensures ∙ ap (λ (a : Arc). a.start) (is d) ∙ ap (λ (p : ArcList). (get_or p.arcs c.args.i d).start) c.self.view_is;
      last = λ d. ap (λ (a : Link). a.end) c.index.ensures ∙ ap (λ (a : Arc). a.end) (is d) ∙ ap (λ (p : ArcList). (get_or p.arcs c.args.i d).end) c.self.view_is;
      weight = λ d. ap (λ (a : Link). a.weight) c.index.ensures ∙ ap (λ (a : Arc). a.weight) (is d) ∙ ap (λ (p : ArcList). (get_or p.arcs c.args.i d).weight) c.self.view_is;
      next = λ d. subst (λ (p : ArcList). IsPlace p.arcs (get_or p.arcs c.args.i d).target c.args.i c.index.result.now.next) c.self.view_is
          (rw (next-read p.links.items c.args.i c.index.result.now low c.index.ensures) (c.self.invariant.linked.others c.args.i d (omega (arith, low, length-arcs p.width p.choices.items p.links.items))));
    }

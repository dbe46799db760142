use Rattle.std.proofs.Common.{◌≡◌, ◌<◌, ◌++◌, ◌∷◌, [], length, get_or, ap, sym, ◌∙◌, arith}
use Rattle.std.proofs.lemmas.List.{get_or_read, length_push}
use Rattle.stage_network.specs.ArcSteps.{ArcList}
use Rattle.stage_network.proofs.ArcLists.{arcs-push, link-arcs}
use Rattle.stage_network.proofs.arcs.Arcs.link.Goals as goal

pub invariant_of-self-2 : goal.invariant_of-self-2
invariant_of-self-2 c =
    let p = c.self.inside in
    let wide : length c.args.choice.now ≡ p.width = c.requires.wide ∙ sym (ap (λ (p : ArcList). p.width) c.self.view_is) in
    let there : c.args.target < length p.heads.items = omega (arith, c.requires.target, ap (λ (p : ArcList). p.rooms) c.self.view_is) in
    let next : c.index-next.result.now ≡ get_or p.heads.items c.args.target 0 = (get_or_read p.heads.items c.args.target c.index-next.result.now there c.index-next.ensures 0) in
    let links = c.in-Ok.ensures.items ∙ ap (λ xs. xs ++ record { start = c.args.start; end = c.args.end; weight = c.args.weight; target = c.args.target; next = c.index-next.result.now } ∷ []) c.reserve.ensures.items in
    rw (c.in_ok-extend_from_slice.ensures.items, links)
    (link-arcs p.width p.choices.items p.links.items p.heads.items c.self.invariant c.args.choice.now (record { start = c.args.start; end = c.args.end; weight = c.args.weight; target = c.args.target; next = c.index-next.result.now }) c.len.result wide there next (c.len.ensures ∙ c.push.new.self.ok.0 ∙ ap length links ∙ length_push p.links.items (record { start = c.args.start; end = c.args.end; weight = c.args.weight; target = c.args.target; next = c.index-next.result.now })))

pub returns-clause-arcs : goal.returns-clause-arcs
returns-clause-arcs c =
    let p = c.self.inside in
    let wide : length c.args.choice.now ≡ p.width = c.requires.wide ∙ sym (ap (λ (p : ArcList). p.width) c.self.view_is) in
    let links = c.in-Ok.ensures.items ∙ ap (λ xs. xs ++ record { start = c.args.start; end = c.args.end; weight = c.args.weight; target = c.args.target; next = c.index-next.result.now } ∷ []) c.reserve.ensures.items in
    rw (c.in_ok-extend_from_slice.ensures.items, links)
    (arcs-push p.width p.choices.items c.args.choice.now p.links.items (record { start = c.args.start; end = c.args.end; weight = c.args.weight; target = c.args.target; next = c.index-next.result.now }) c.self.invariant.long wide
    ∙ ap (λ (p : ArcList). p.arcs ++ record { start = c.args.start; end = c.args.end; choice = c.args.choice.now; weight = c.args.weight; target = c.args.target } ∷ []) c.self.view_is)

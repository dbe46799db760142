use Rattle.std.proofs.Common.{map, sym, ◌∙◌}
use Rattle.std.proofs.lemmas.List.{length-map}
use Rattle.node_pool.proofs.NodeLists.{length-nodes}
use Rattle.node_pool.proofs.list.NodeList.len.Goals as goal

pub returns : goal.returns
returns g c =
    let p = c.self.inside in
    rw (← c.self.view_is) (c.len.ensures ∙ p.weights.ok.0 ∙ sym (length-nodes p.width p.row.items (map g.C.Count.number p.weights.items) ∙ length-map p.weights.items g.C.Count.number))

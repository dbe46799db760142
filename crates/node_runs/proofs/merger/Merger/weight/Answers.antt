use Rattle.std.proofs.Common.{◌≡◌, ◌+◌, ◌-◌, get_or, sym, ◌∙◌, ap}
use Rattle.node_pool.specs.Nodes.{Node}
use Rattle.node_runs.proofs.Passing.{in-rest}
use Rattle.node_runs.proofs.merger.Merger.weight.Goals as goal

pub returns-else-i-done : goal.returns-else-i-done
returns-else-i-done g c = λ d.
    let p = c.self.inside in
    let there : get_or c.args.self.now c.args.i d ≡ get_or p.from.nodes (p.at + (c.args.i - c.len-done.result)) d = ap (λ ns. get_or ns c.args.i d) (sym c.self.view_is) ∙ in-rest p.into.nodes p.from.nodes p.at c.args.i c.len-done.result d c.len-done.ensures c.if-i-done.false in
    c.weight-else-i-done.ensures d ∙ ap (λ (a : Node). a.weight) (sym there)
